-- What is planned is sound, within limits and spelled as queries are.
use Rattle.std.proofs.{Math.Logic.∥∥₁_elim, Props.props}
use Rattle.star_query.proofs.MeantTrees.{meant_spelled_so, meant_within}
use Rattle.star_plan.{specs.Limits.IsPlanWithinLimits, specs.Meaning.Plan, specs.Planned.IsPlanned, specs.Sound.IsSoundPlan, specs.Spelled.IsSpelledPlan, proofs.Conditions.no_fault, proofs.Preserved.{preserved_sound, preserved_spelled, preserved_within}}

sound_prop : (p : Plan) → IsProp (IsSoundPlan p)
sound_prop p = hlevel props

limits_prop : (p : Plan) → IsProp (IsPlanWithinLimits p)
limits_prop p = hlevel props

spelled_prop : (p : Plan) → IsProp (IsSpelledPlan p)
spelled_prop p = hlevel props

pub planned_sound : (p : Plan) → ∥ IsPlanned p ∥₁ → IsSoundPlan p
planned_sound p some = ∥∥₁_elim some (sound_prop p)
    (λ h. preserved_sound h.tree p (no_fault h.tree h.named) h.resolved)

pub planned_within : (p : Plan) → ∥ IsPlanned p ∥₁ → IsPlanWithinLimits p
planned_within p some =
    ∥∥₁_elim some (limits_prop p)
    (λ h. preserved_within h.tree p (meant_within h.tree h.meant) (no_fault h.tree h.named)
    h.resolved)

pub planned_spelled : (p : Plan) → ∥ IsPlanned p ∥₁ → IsSpelledPlan p
planned_spelled p some =
    ∥∥₁_elim some (spelled_prop p)
    (λ h. preserved_spelled h.tree p (meant_within h.tree h.meant) (meant_spelled_so h.tree h.meant)
    h.resolved)
