-- How often the instructions of a program are executed.
use Rattle.std.specs.Prelude.{◌≡◌, ◌≤◌, true, false}
use Rattle.star_program.specs.{declared.program.Parts.Parts, World.World}
use Rattle.star_safety.specs.{Quote.quote, Standing.Standing}

-- in a scan at most as often as the quote says, elsewhere at most once
pub record IsMetWithinQuote (w : World) (parts : Parts) (i : Standing) : Type 0 where
  pub in_scans : i.context.inside ≡ true → i.context.met ≤ quote w.size parts
  pub outside : i.context.inside ≡ false → i.context.met ≡ 1
