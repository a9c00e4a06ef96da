use Rattle.std.proofs.Common.{◌∙◌, ◌≤◌, ℕ, List, [], Option, ap, refl, subst, sym}
use Rattle.star_schema.specs.{Order.value_cmp, Tables.Value}
use Rattle.star_merge.{specs.Merged.reach, specs.Private.Adding.{AddUpAlike, addends, empty_total, reach_at}, proofs.Small.nothing_reached, proofs.Steps.alike_none}
use Rattle.star_merge.proofs.merging.Merging.new.Goals as goal

pub returns : goal.returns
returns c =
    let s = c.args.shape in
    let n = c.args.count in
    let gs = c.args.aggregates.items in
    record {
      by_shape = refl;
      count = refl;
      aggregates = refl;
      alike = subst (λ xs. AddUpAlike value_cmp gs xs (addends s n gs []))
          (sym (c.in_ok-groups.ensures ∙ ap (λ as'.
          empty_total {K = Value} s n as') c.deref.ensures.value))
          (alike_none s n gs);
      within = subst (λ xs. (keys : List (Option Value)) (index : ℕ)
          → reach_at keys index xs ≤ reach index [])
          (sym (c.in_ok-groups.ensures ∙ ap (λ as'.
          empty_total {K = Value} s n as') c.deref.ensures.value))
          (nothing_reached s n gs);
    }
