use Rattle.star_group.proofs.MergedCells.{RowOfBelow}
use Rattle.star_group.proofs.keyed.merge.row_of_put.Given as goal

abbrev pub invariant-loop-index : goal.invariant-loop-index
invariant-loop-index l = RowOfBelow l.aggregates l.values l.row l.index
