use Rattle.std.{proofs.Common.{◌<◌, ℕ, List, get_or}, specs.List.AllZip}
use Rattle.star_program.specs.declared.outcome.Cell.{Cell}
use Rattle.star_report.specs.Columns.{IsCellOfKind}
use Rattle.star_merger.specs.Columns.{column_kinds}
use Rattle.star_merger.proofs.spelled.are_spelled_rows.Given as goal

abbrev pub invariant-loop-number : goal.invariant-loop-number
invariant-loop-number l =
    (k : ℕ) (d : List Cell) → k < l.number
    → AllZip IsCellOfKind (column_kinds l.columns) (get_or l.rows k d)
