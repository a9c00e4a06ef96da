-- The facts of an instruction's result, or the range that leaves 64 bits.
use Rattle.std.specs.Prelude.{◌≡◌, ◌+◌, ◌<◌, ℕ, List, length, slice_index_or, Option, Some, None, Result, MatchResult}
use Rattle.star_schema.specs.declared.group.Aggregate.{Aggregate}
use Rattle.star_program.specs.World.{World}
use Rattle.star_safety.specs.{declared.reason.Reason.Reason, declared.reason.Reason.TheVariants.Overflow, Refusals.reached, Tallies.Share}
use Rattle.star_verify.specs.{declared.known.Beyond.Beyond, declared.known.Known.Known, declared.tally.Tally.Tally, Private.Views.IsTally, Private.Views.known_view, Private.Views.reach_view}
use Rattle.star_safety.specs.Ranges as ranges

abbrev pub beyond_view : World → Beyond → Reason
beyond_view w beyond =
    Overflow beyond.range.low beyond.range.high (reached w (reach_view beyond.reach))

-- Ok with the facts without a reason, otherwise the reason, with the range that leaves 64 bits
abbrev pub IsMade : World → Result Known Beyond → ranges.Known → Option Reason → Type 0
IsMade w result k reason =
    MatchResult result (λ known. (known_view known ≡ k) × (reason ≡ None))
    (λ beyond. reason ≡ Some (beyond_view w beyond))

-- ---- tallies in a list

-- the tally at an index is that of some shares
abbrev pub IsTallyAt : List Tally → ℕ → List Share → Type 0
IsTallyAt tallies index ss = (t : Tally) → IsTally (slice_index_or tallies index t) ss

-- the tallies of the aggregates begin at an index
abbrev pub AreTallies : List Tally → ℕ → List Aggregate → (ℕ → List Share) → Type 0
AreTallies tallies first aggregates shares =
    (a : ℕ) → a < length aggregates → IsTallyAt tallies (first + a) (shares a)
