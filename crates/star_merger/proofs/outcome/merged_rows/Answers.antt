use Rattle.std.{proofs.Common.{◌≡◌, ◌∙◌, ℕ, List, ap, length, map, rules, subst, sym}, specs.Prelude.IfOk, specs.List.flat_map}
use Rattle.star_plan.specs.{Meaning.Plan, Views.plan_view}
use Rattle.star_merge.specs.{Cells.group_of, Merged.AreOfShape, Merged.IsMergedRows}
use Rattle.star_merger.{specs.Mergers.IsMergerOf, proofs.Opened.{plan_is, program_is}}
use Rattle.star_merger.proofs.outcome.merged_rows.Goals as goal

pub returns : goal.returns
returns c =
    let tree = c.tree-tree.result.now in
    let counted : c.len.result ≡ length tree.keys.items = search rules in
    let plan = λ (query : List ℕ) (is : IsMergerOf query c.args.merger.now).
    ap plan_view c.tree-tree.ensures.same
    ∙ plan_is query c.merger.inside c.args.merger.now c.merger.view_is c.merger.invariant is in
    let count = λ (query : List ℕ) (is : IsMergerOf query c.args.merger.now).
    counted ∙ ap (λ (p : Plan). length p.keys) (plan query is) in
    record {
      merged = λ query is groups shown shaped.
          let shape = ap (λ (p : Plan). p.shape) (plan query is) in
          let aggregates = c.in_ok-aggregates.ensures is.p
          (program_is query c.merger.inside c.args.merger.now c.merger.view_is c.merger.invariant
          is) in
          let sorts = c.deref.ensures.value ∙ ap (λ (p : Plan). p.sorts) (plan query is) in
          let items = c.deref-2.ensures.value ∙ ap (λ (p : Plan). p.items) (plan query is) in
          subst (λ (X : Type 0). X)
          (λ i. IfOk c.merge_rows.result (IsMergedRows (shape i) (count query is i) (aggregates i)
          (sorts i) (items i) groups))
          (c.merge_rows.ensures.merged groups
          (shown ∙ (λ i. flat_map (λ rows. map (group_of (sym (count query is) i)) rows.now)
          c.args.reports.now))
          (subst (λ (X : Type 0). X)
          (λ i. AreOfShape (sym (count query is) i) (sym aggregates i) groups) shaped));
      small = λ query is groups shown.
          c.merge_rows.ensures.small groups
          (shown ∙ (λ i. flat_map (λ rows. map (group_of (sym (count query is) i)) rows.now)
          c.args.reports.now));
    }
