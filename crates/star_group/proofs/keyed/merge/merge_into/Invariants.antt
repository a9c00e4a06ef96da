use Rattle.star_group.proofs.MergedCells.{MergedBelow}
use Rattle.star_group.proofs.keyed.merge.merge_into.Given as goal

abbrev pub invariant-loop-index : goal.invariant-loop-index
invariant-loop-index l = MergedBelow l.aggregates l.fn.held l.more l.held l.index
