use Rattle.star_group.proofs.Common.{◌≡◌, ◌∷◌, [], ◌∙◌, FitsSigned, List, ap, arith, get_or, length, pos, refl, rules, slice_set, subst, sym, ℤ, w128, to_z-of_z, CanTake, column_after}
use Rattle.star_group.proofs.array_store.cells.take_vector_of.Goals as goal

only_cell : (xs : List ℤ) → length xs ≡ 1 → xs ≡ get_or xs 0 (pos 0) ∷ []
only_cell [] e = absurd (omega (arith, e))
only_cell (x ∷ []) e = refl
only_cell (x ∷ y ∷ xs) e = absurd (omega (arith, e))

pub take_rows_of-requires-clause-stays : goal.take_rows_of-requires-clause-stays
take_rows_of-requires-clause-stays c =
    let cell = get_or c.args.cells.now 0 (pos 0) in
    let fits : FitsSigned w128 (get_or c.args.cells.now 0 (pos 0)) = search rules in
    subst (λ z. CanTake c.args.aggregate c.args.vector.now c.args.at.now (z ∷ []))
    (sym (to_z-of_z w128 cell fits))
    (subst (CanTake c.args.aggregate c.args.vector.now c.args.at.now)
    (only_cell c.args.cells.now (omega arith)) c.requires.stays)

pub returns-then-cells-eq1-clause-cells : goal.returns-then-cells-eq1-clause-cells
returns-then-cells-eq1-clause-cells c =
    let cell = get_or c.args.cells.now 0 (pos 0) in
    let fits : FitsSigned w128 (get_or c.args.cells.now 0 (pos 0)) = search rules in
    let one = only_cell c.args.cells.now (omega arith) in
    let back = to_z-of_z w128 c.take_rows_of.result (record { sfits = c.take_rows_of.type_inv }) in
    (λ i. slice_set (one i) 0 (back i))
    ∙ sym c.take_rows_of.ensures
    ∙ ap (λ z. column_after c.args.aggregate c.args.vector.now c.args.at.now (z ∷ [])
    (length c.args.at.now)) (to_z-of_z w128 cell fits)
    ∙ ap (λ cells. column_after c.args.aggregate c.args.vector.now c.args.at.now cells
    (length c.args.at.now)) (sym one)
