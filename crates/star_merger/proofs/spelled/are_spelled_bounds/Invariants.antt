use Rattle.std.proofs.Common.{◌<◌}
use Rattle.star_schema.specs.{declared.column.ColumnId.ColumnId, Schema.index_of}
use Rattle.star_partial.specs.Contents.{bounds_at}
use Rattle.star_merger.specs.Spelled.{HasBounds}
use Rattle.star_merger.proofs.spelled.are_spelled_bounds.Given as goal

abbrev pub invariant-loop-column : goal.invariant-loop-column
invariant-loop-column l =
    (c : ColumnId) → index_of c < l.column-index → HasBounds c (bounds_at l.bounds c)
