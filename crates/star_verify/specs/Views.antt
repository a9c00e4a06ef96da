-- Refusals as definitions see them.
use Rattle.std.specs.Prelude.{◌≡◌, Option, Some, None, Result, MatchResult}
use Rattle.star_safety.specs.Admissible as admissible
use Rattle.star_safety.specs.declared.reason.Reason.{Reason}
use Rattle.star_verify.specs.declared.refusal.Refusal.{Refusal}
use Rattle.star_verify.specs.declared.refusal.Refusal.TheVariants as refusal

-- None if memory ran out
abbrev pub refusal_view : Refusal → Option admissible.Refusal
refusal_view refusal.OutOfMemory = None
refusal_view (refusal.TooCostly visits) = Some (admissible.TooCostly visits)
refusal_view (refusal.Refused at reason) = Some (admissible.Refused (at, reason))
refusal_view (refusal.BadShow index) = Some (admissible.BadShow index)

-- Ok without a reason, otherwise the reason
abbrev pub IsReason : Result (Unit {0}) Reason → Option Reason → Type 0
IsReason result found = MatchResult result (λ _. found ≡ None) (λ reason. found ≡ Some reason)
