-- A query whose partials are merged.
use Rattle.std.specs.Prelude.{◌≡◌, ℕ, List}
use Rattle.star_plan.specs.{declared.tree.PlanTree.PlanTree, Meaning.Plan, Views.plan_view}
use Rattle.star_engine.specs.Queries.{IsPlanOf}

-- the text of a query, and its plan
pub record PlannedQuery : Type 0 where
  pub text : List ℕ
  pub plan : PlanTree

-- it is the query that a text means
pub record IsMergerOf (query : List ℕ) (merger : PlannedQuery) : Type 0 where
  pub p : Plan
  pub meant : IsPlanOf query p
  pub planned : plan_view merger.plan ≡ p
  pub text : merger.text ≡ query
