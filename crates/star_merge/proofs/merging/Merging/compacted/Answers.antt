use Rattle.std.proofs.{Common.{◌∙◌, arith, subst}, lemmas.Result.err_from_is_err_and}
use Rattle.star_schema.specs.Order.{value_cmp}
use Rattle.star_merge.{specs.Private.Adding.AreSums, proofs.Small.small_within, proofs.Steps.alike_sums}
use Rattle.star_merge.proofs.merging.Merging.compacted.Goals as goal

pub returns-in_err-groups-clause-small : goal.returns-in_err-groups-clause-small
returns-in_err-groups-clause-small c = λ s count gs told h small.
    let p = err_from_is_err_and c.from_residual.result c.from_residual.ensures.1 in
    rw (p.1, p.2) (c.in_err-groups.ensures.small
    (small_within told c.args.self.groups.items h.within small))

pub returns-clause-merged : goal.returns-clause-merged
returns-clause-merged c = λ s count gs told h.
    let groups = c.args.self.groups.items in
    let sums = c.in_ok-groups.groups.items in
    record {
      by_shape = h.by_shape;
      count = h.count;
      aggregates = h.aggregates;
      alike = alike_sums s count gs told groups sums h.alike
          (subst (λ xs. AreSums value_cmp xs groups sums) (c.deref.ensures.value ∙ h.aggregates)
          c.in_ok-groups.ensures.sums);
      within = λ keys index.
          omega (arith, h.within keys index, c.in_ok-groups.ensures.within keys index);
    }
