use Rattle.std.proofs.{Common.{◌≡◌, ◌∙◌, ap, map, subst}, lemmas.Result.err_from_is_err_and}
use Rattle.star_schema.specs.Order.{value_cmp}
use Rattle.star_program.specs.RowCells.{cell_of}
use Rattle.star_merge.{specs.Private.Adding.AreSums, proofs.Small.small_within, proofs.Steps.merged_rows}
use Rattle.star_merge.proofs.merging.Merging.into_rows.Goals as goal

pub returns-in_err-sums-clause-small : goal.returns-in_err-sums-clause-small
returns-in_err-sums-clause-small c = λ s count gs told h small.
    let p = err_from_is_err_and c.from_residual.result c.from_residual.ensures.1 in
    rw (p.1, p.2) (c.in_err-sums.ensures.small
    (small_within told c.args.self.groups.items h.within small))

pub returns-clause-merged : goal.returns-clause-merged
returns-clause-merged c = λ s count gs told h shaped.
    let groups = c.args.self.groups.items in
    let sums = c.in_ok-sums.sums.items in
    let same : c.deref.result.now ≡ gs = c.deref.ensures.value ∙ h.aggregates in
    merged_rows s count gs c.args.sorts.now c.args.items.now told groups sums
    c.sort_groups.new.groups.items c.in_ok-cell_rows.field-0 shaped h.alike
    (subst (λ xs. AreSums value_cmp xs groups sums) same c.in_ok-sums.ensures.sums)
    c.sort_groups.ensures.moved c.in_ok-sort_groups.ensures.sorted
    (c.in_ok-cell_rows.ensures
    ∙ ap (map (λ group. map (cell_of group) c.args.items.now)) c.deref-2.ensures.value)
