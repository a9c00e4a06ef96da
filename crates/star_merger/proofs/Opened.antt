-- The fields of a merger of a query.
use Rattle.std.proofs.Common.{◌≡◌, ◌∙◌, List, ap, ℕ}
use Rattle.star_plan.specs.Views.{plan_view}
use Rattle.star_compile_laws.specs.Compiled.{compiled}
use Rattle.star_merger.specs.{declared.merger.Merger.TheInside.Inside, Columns.plan_columns, Mergers.{IsMergerOf, PlannedQuery}, Private.Inside.{IsOfPlan, planned_query}}

module _ (query : List ℕ) (merger : Inside) (shown : PlannedQuery)
    (same : planned_query merger ≡ shown) (of_plan : IsOfPlan merger)
    (is : IsMergerOf query shown) where
  pub text_is : merger.query.items ≡ query
  text_is = ap (λ (shown : PlannedQuery). shown.text) same ∙ is.text

  pub plan_is : plan_view merger.plan ≡ is.p
  plan_is = ap (λ (shown : PlannedQuery). plan_view shown.plan) same ∙ is.planned

  pub program_is : merger.program ≡ compiled is.p
  program_is = of_plan.program ∙ ap compiled plan_is

  pub columns_are : merger.columns.items ≡ plan_columns is.p
  columns_are = of_plan.columns ∙ ap plan_columns plan_is
