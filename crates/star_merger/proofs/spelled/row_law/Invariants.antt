use Rattle.std.proofs.Common.{◌<◌, ℕ, get_or}
use Rattle.star_program.specs.declared.outcome.Cell.{Cell}
use Rattle.star_merger.specs.Private.Digits.{HasCellDigits}
use Rattle.star_merger.proofs.spelled.row_law.Given as goal

abbrev pub invariant-loop-cell : goal.invariant-loop-cell
invariant-loop-cell l = (k : ℕ) (d : Cell) → k < l.cell-index → HasCellDigits (get_or l.row k d)
