use Rattle.std.proofs.Common.{rules}
use Rattle.star_outcome.proofs.SortedRows.{sorted_by_answers}
use Rattle.star_merge.{specs.Private.RowOrder.row_order, proofs.RowOrders.row_total}
use Rattle.star_merge.proofs.sums.sort_groups.Goals as goal

pub returns-clause-sorted : goal.returns-clause-sorted
returns-clause-sorted c =
    sorted_by_answers (row_order c.args.sorts.now) (row_total c.args.sorts.now)
    c.sort_by.new.self.items c.in_ok-sort_by.ensures.sorted (λ a r f' k. search rules)
