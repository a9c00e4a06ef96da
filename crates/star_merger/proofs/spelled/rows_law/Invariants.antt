use Rattle.std.proofs.Common.{◌<◌, ℕ, All, List, get_or}
use Rattle.star_program.specs.declared.outcome.Cell.{Cell}
use Rattle.star_merger.specs.Private.Digits.{HasCellDigits}
use Rattle.star_merger.proofs.spelled.rows_law.Given as goal

abbrev pub invariant-loop-number : goal.invariant-loop-number
invariant-loop-number l =
    (k : ℕ) (d : List Cell) → k < l.number → All HasCellDigits (get_or l.rows k d)
