use Rattle.star_group.{proofs.Common.{add-one, ap, get_or, rules, slice_set, true}, specs.Private.Taken.after_rows}
use Rattle.star_group.proofs.array_store.cells.mark.Goals as goal

pub loop-row-init : goal.loop-row-init
unfolding after_rows
loop-row-init c = search rules

pub loop-row-preserved : goal.loop-row-preserved
unfolding after_rows
loop-row-preserved c = rw add-one
    (ap (λ seen. slice_set seen (get_or c.args.at.now c.loop-row.row 0) true) c.loop-row.invariant)
