-- What holds of the plan of a query's text.
use Rattle.std.proofs.Common.{ℕ, List}
use Rattle.star_query.{proofs.Spelled.meant_spelled, proofs.Within.derived_within, specs.Limits.IsQueryWithinLimits}
use Rattle.star_plan.{specs.Limits.IsPlanWithinLimits, specs.Meaning.Plan, specs.Sound.IsSoundPlan, specs.Spelled.IsSpelledPlan, proofs.Conditions.no_fault, proofs.Preserved.{preserved_sound, preserved_spelled, preserved_within}}
use Rattle.star_engine.specs.Queries.{IsPlanOf}

few : (query : List ℕ) (p : Plan) (h : IsPlanOf query p) → IsQueryWithinLimits h.tree
few query p h = derived_within _ h.tree h.means.derives

pub plan_within : (query : List ℕ) (p : Plan) → IsPlanOf query p → IsPlanWithinLimits p
plan_within query p h = preserved_within h.tree p (few query p h) (no_fault h.tree h.named) h.resolved

pub plan_sound : (query : List ℕ) (p : Plan) → IsPlanOf query p → IsSoundPlan p
plan_sound query p h = preserved_sound h.tree p (no_fault h.tree h.named) h.resolved

pub plan_spelled : (query : List ℕ) (p : Plan) → IsPlanOf query p → IsSpelledPlan p
plan_spelled query p h =
    preserved_spelled h.tree p (few query p h) (meant_spelled query h.tree h.means) h.resolved
