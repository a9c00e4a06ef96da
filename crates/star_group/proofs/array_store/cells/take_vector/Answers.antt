use Rattle.star_group.{proofs.Common.{FitsSigned, Some, add-one, ap, get_or, pos, slice_set, ◌∙◌, rules, w128, to_z-of_z, leaves, taking}, specs.Private.Taken.after_rows}
use Rattle.star_group.proofs.array_store.cells.take_vector.Goals as goal

pub loop-row-init : goal.loop-row-init
unfolding after_rows
loop-row-init c = search rules

pub taken_in-requires-clause-stays : goal.taken_in-requires-clause-stays
taken_in-requires-clause-stays c =
    let at = get_or c.args.at.now c.loop-row.row 0 in
    let fits : FitsSigned w128 (get_or c.loop-row.cells at (pos 0)) = search rules in
    ap (λ z. leaves c.args.aggregate
    (Some (taking c.args.aggregate c.args.vector.now c.loop-row.row z)))
    (to_z-of_z w128 _ fits ∙ ap (λ cells. get_or cells at (pos 0)) c.loop-row.invariant)
    ∙ c.requires.stays c.loop-row.row c.loop-row-test.true

pub loop-row-preserved : goal.loop-row-preserved
unfolding after_rows
loop-row-preserved c =
    let at = get_or c.args.at.now c.loop-row.row 0 in
    let fits : FitsSigned w128 (get_or c.loop-row.cells at (pos 0)) = search rules in
    let back = to_z-of_z w128 c.taken_in.result (record { sfits = c.taken_in.type_inv }) in
    rw add-one
    (λ i. slice_set (c.loop-row.invariant i) at
    ((back ∙ c.taken_in.ensures
    ∙ ap (taking c.args.aggregate c.args.vector.now c.loop-row.row) (to_z-of_z w128 _ fits
    ∙ ap (λ cells. get_or cells at (pos 0)) c.loop-row.invariant)) i))
