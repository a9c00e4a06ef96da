use Rattle.star_group.proofs.{Common.{◌≡◌, ◌+◌, ◌-◌, ◌*◌, ◌∙◌, ap, arith, length, slice_set, subst, sym, cut, CanTake, column_after}, CutRows.{cut_put, cut_wide, mid_at}}
use Rattle.star_group.proofs.array_store.cells.take_column.Goals as goal

pub take_vector_of-requires-clause-stays : goal.take_vector_of-requires-clause-stays
take_vector_of-requires-clause-stays c =
    let start = c.args.number * c.args.ids in
    let part : start + c.args.ids - start ≡ c.args.ids = omega arith in
    subst (CanTake c.args.aggregate c.args.vector.now c.args.at.now)
    (sym (mid_at c.args.ids c.args.aggregate_count c.args.number c.args.cells.now
    c.requires.number c.requires.long _ part)) c.requires.stays

pub returns-clause-cells : goal.returns-clause-cells
returns-clause-cells c =
    let start = c.args.number * c.args.ids in
    let part : start + c.args.ids - start ≡ c.args.ids = omega arith in
    let at = mid_at c.args.ids c.args.aggregate_count c.args.number c.args.cells.now
    c.requires.number c.requires.long _ part in
    cut_put c.args.ids c.args.aggregate_count c.args.number c.args.cells.now c.requires.number
    c.requires.long _ c.take_vector_of.new.cells part
    (c.take_vector_of.ensures.len ∙ ap length at
    ∙ cut_wide c.args.ids c.args.aggregate_count c.args.cells.now c.args.number
    c.requires.long c.requires.number)
    ∙ ap (slice_set (cut c.args.ids c.args.aggregate_count c.args.cells.now) c.args.number)
    (c.take_vector_of.ensures.cells
    ∙ ap (λ cells. column_after c.args.aggregate c.args.vector.now c.args.at.now cells
    (length c.args.at.now)) at)
