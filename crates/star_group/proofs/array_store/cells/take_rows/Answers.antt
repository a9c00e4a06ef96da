use Rattle.star_group.{proofs.Common.{◌≡◌, ◌∷◌, [], ◌∙◌, FitsSigned, Some, add-one, ap, arith, get_or, length, pos, refl, rules, slice_set, subst, sym, w128, to_z-of_z, leaves, CanTake, column_after, taking}, specs.Private.Taken.after_rows}
use Rattle.star_group.proofs.array_store.cells.take_rows.Goals as goal

pub loop-row-init : goal.loop-row-init
unfolding after_rows
loop-row-init c = refl

pub taken_in-all-requires-clause-stays : goal.taken_in-all-requires-clause-stays
taken_in-all-requires-clause-stays c =
    let row = c.loop-row.row in
    let first : get_or c.args.at.now row 0 ≡ 0 =
    omega (arith, c.requires.within row c.loop-row-test.true) in
    let fits : FitsSigned w128 c.args.cell = search rules in
    let stays = subst (λ z. CanTake c.args.aggregate c.args.vector.now c.args.at.now (z ∷ []))
    (sym (to_z-of_z w128 c.args.cell fits)) c.requires.stays in
    ap (λ z. leaves c.args.aggregate (Some (taking c.args.aggregate c.args.vector.now row z)))
    (sym (λ i. get_or (c.loop-row.invariant i) (first i) (pos 0)))
    ∙ stays row c.loop-row-test.true

pub loop-row-preserved : goal.loop-row-preserved
unfolding after_rows
loop-row-preserved c =
    let row = c.loop-row.row in
    let first : get_or c.args.at.now row 0 ≡ 0 =
    omega (arith, c.requires.within row c.loop-row-test.true) in
    let back = to_z-of_z w128 c.taken_in-all.result (record { sfits = c.taken_in-all.type_inv }) in
    rw add-one
    ((λ i. slice_set (c.loop-row.invariant i) (first i)
    (taking c.args.aggregate c.args.vector.now row
    (get_or (c.loop-row.invariant i) (first i) (pos 0))))
    ∙ ap (λ z. z ∷ []) (sym (back ∙ c.taken_in-all.ensures)))

pub returns : goal.returns
returns c =
    let fits : FitsSigned w128 c.args.cell = search rules in
    let all : c.loop-row.row ≡ length c.args.at.now =
    omega (arith, c.loop-row-test.false, c.loop-row.auto.row-end) in
    ap (λ z. column_after c.args.aggregate c.args.vector.now c.args.at.now (z ∷ [])
    (length c.args.at.now)) (sym (to_z-of_z w128 c.args.cell fits))
    ∙ ap (column_after c.args.aggregate c.args.vector.now c.args.at.now _) (sym all)
    ∙ c.loop-row.invariant
