-- A program with the rows that it was checked against.
use Rattle.std.specs.Prelude.{◌≤◌, ◌^◌}
use Rattle.star_schema.specs.Database.{Database}
use Rattle.star_program.specs.declared.program.Parts.{Parts}
use Rattle.star_world.specs.WorldOf.{world_of}
use Rattle.star_safety.specs.{Admissible.IsAdmissible, Quote.quote}

pub record Checked : Type 0 where
  pub database : Database
  pub program : Parts

-- the program is admissible over these rows, and its quote does not exceed the maximum of any run
pub record IsVerified (checked : Checked) : Type 0 where
  pub admissible : IsAdmissible (world_of checked.database) checked.program
  pub cheap : quote (world_of checked.database).size checked.program ≤ 10 ^ 15
