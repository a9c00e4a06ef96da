use Rattle.std.{proofs.Common.{◌≡◌, ◌++◌, map}, specs.List.range_with_len}
use Rattle.star_outcome.specs.Private.RowOrder.{key_sort}
use Rattle.star_outcome.proofs.outcome.order.all_sorts.Given as goal

abbrev pub invariant-loop-index : goal.invariant-loop-index
invariant-loop-index l = l.all.items ≡ l.sorts ++ map key_sort (range_with_len 0 l.index)
