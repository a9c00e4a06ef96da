-- Which programs may be run over the rows of five tables.
use Rattle.std.specs.Prelude.{◌^◌, ◌≤◌}
use Rattle.star_schema.specs.{Database.Database, Loadable.IsSound}
use Rattle.star_program.specs.{declared.program.Parts.Parts, Limits.IsWithinLimits}
use Rattle.star_world.specs.WorldOf.{world_of}
use Rattle.star_safety.specs.{Admissible.IsAdmissible, Quote.quote}

-- the rows are sound, and the program is admissible over them, with no more visits quoted than any
-- run may make
pub record IsAcceptedOver (database : Database) (parts : Parts) : Type 0 where
  pub sound : IsSound database
  pub limits : IsWithinLimits parts
  pub admissible : IsAdmissible (world_of database) parts
  pub cheap : quote (world_of database).size parts ≤ 10 ^ 15
