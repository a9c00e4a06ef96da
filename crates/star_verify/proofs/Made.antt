-- What is known of what an instruction makes, where it leaves 64 bits nowhere.
use Rattle.std.proofs.Common.{◌≡◌, Some, None, Result, Ok, Err, subst, ◌∙◌}
use Rattle.star_verify.proofs.Common.{Beyond, IfOk, IsMade, Known, MatchResult, Range, World, beyond_view, known_view, overflow, overflow_of}
use Rattle.star_safety.specs.Ranges as ranges

pub made_as : (w : World) (result : Result Known Beyond) (k made : ranges.Known) → k ≡ made
    → IfOk result (λ known. known_view known ≡ k) → MatchResult result (λ _. overflow_of w k ≡ None)
    (λ beyond. overflow_of w k ≡ Some (beyond_view w beyond))
    → IsMade w result made (overflow_of w made)
made_as w (Ok known) k made e p q = (p ∙ e, subst (λ m. overflow_of w m ≡ None) e q)
made_as w (Err beyond) k made e p q = subst (λ m. overflow_of w m ≡ Some (beyond_view w beyond)) e q

-- ---- a read

-- of an equal range
pub read_as : (w : World) (result : Result Known Beyond) (reach : ranges.Reach) (r s : Range)
    → r ≡ s → IsMade w result (ranges.known_number r) (overflow w r reach)
    → IsMade w result (ranges.known_number s) (overflow w s reach)
read_as w result reach r s same h =
    subst (λ q. IsMade w result (ranges.known_number q) (overflow w q reach)) same h
