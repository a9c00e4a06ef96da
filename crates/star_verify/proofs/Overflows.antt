-- What arithmetic makes of two registers, and where it leaves 64 bits.
use Rattle.std.proofs.{Common.{◌≡◌, Option, Some, None, Result, ap, arith}, lemmas.Int.ints}
use Rattle.star_verify.proofs.Common.{Beyond, FitsI64, Known, MatchResult, Overflow, Range, World, corner_range, fits_i64_fits, not, overflow_of, reach_view, reached, refuses, ℤ}
use Rattle.star_safety.specs.Ranges as ranges

module _ (w : World) (r : Range) (reach : ranges.Reach) where
  pub fitting : FitsI64 r → overflow_of w (ranges.KnownNumber r reach None) ≡ None
  fitting fits = ap (λ b. refuses (not b) (Overflow r.low r.high (reached w reach)))
      ((fits_i64_fits r).1 fits)

  pub leaving : (FitsI64 r → ⊥) → overflow_of w (ranges.KnownNumber r reach None)
      ≡ Some (Overflow r.low r.high (reached w reach))
  leaving none = grind (arith, refuses, reached, fits_i64_fits)

pub computed_is : (operation : ℤ → ℤ → ℤ) (b from to : Range)
    (reach on_left on_right : ranges.Reach) (left right : Option ranges.Known)
    → b ≡ corner_range operation from to → from ≡ ranges.range_at left → to ≡ ranges.range_at right
    → reach ≡ ranges.joined_reach on_left on_right
    → on_left ≡ ranges.reach_at left → on_right ≡ ranges.reach_at right
    → ranges.KnownNumber b reach None ≡ ranges.known_arithmetic operation left right
computed_is operation b from to reach on_left on_right left right e f g h j k = grind (arith, ints)

-- what leaves 64 bits is told by its range and its columns
pub overflow_as : (w : World) (result : Result Known Beyond) (k made : ranges.Known) → k ≡ made
    → MatchResult result (λ _. overflow_of w k ≡ None)
    (λ beyond. overflow_of w k
    ≡ Some (Overflow beyond.range.low beyond.range.high (reached w (reach_view beyond.reach))))
    → MatchResult result (λ _. overflow_of w made ≡ None)
    (λ beyond. overflow_of w made
    ≡ Some (Overflow beyond.range.low beyond.range.high (reached w (reach_view beyond.reach))))
overflow_as w result k made e h = grind (arith, reached)
