-- Ranges of a few numbers, by computation: which ranges are made of them, and what each word says.
use Rattle.std.{proofs.Common.{◌≡◌, ◌↔◌, ℕ, ℤ, List, [], ◌∷◌, true, false, map, pos, negsuc, refl, Ok, Err, w64}, specs.Prelude.{◌≤ℤ◌, ◌-ℤ◌, ◌*ℤ◌, FitsSigned, codes}, specs.Fmt.digits}
use Rattle.star_interval.specs.{Range.{FitsI64, Holds, IsLeast, IsMultiple, IsOrdered, IsResult, IsWithin, Range, corner_range, fits_i64, hull, is_i128, is_i64, multiple_range, only, text_of}, declared.Interval.Interval, declared.Wide.Wide, Interval.{bounds_of, range_of, wide_range_of}, Laws.{KeepsOrder, KeepsValues}}

abbrev from_to : ℤ → ℤ → Range
from_to l h = record { low = l; high = h }

-- each row is an input and what comes of it
abbrev Gives : {A B : Type 0} → (A → B) → List (A × B) → Type 0
Gives f rows = map (λ row. f row.0) rows ≡ map (λ row. row.1) rows

-- ---- 64 bits and 128, at the ends and past them

bits : Gives is_i64 ((pos 9223372036854775807, true) ∷ (negsuc 9223372036854775807, true)
    ∷ (pos 9223372036854775808, false) ∷ (negsuc 9223372036854775808, false) ∷ [])
    × Gives fits_i64 ((from_to (pos 0) (pos 9223372036854775808), false)
    ∷ (from_to (negsuc 9223372036854775808) (pos 0), false)
    ∷ (from_to (negsuc 9223372036854775807) (pos 9223372036854775807), true) ∷ [])
    × Gives is_i128 ((pos 170141183460469231731687303715884105727, true)
    ∷ (negsuc 170141183460469231731687303715884105727, true)
    ∷ (pos 170141183460469231731687303715884105728, false)
    ∷ (negsuc 170141183460469231731687303715884105728, false) ∷ (pos 9223372036854775808, true)
    ∷ (negsuc 9223372036854775808, true) ∷ [])
unfolding is_i64 is_i128
bits = (refl, refl, refl)

-- ---- ranges that are made; the least and the greatest result at each of the four pairs of ends

made : (hull (from_to (negsuc 1) (pos 3)) (from_to (pos 0) (pos 2)) ≡ from_to (negsuc 1) (pos 3))
    × (hull (from_to (pos 0) (pos 2)) (from_to (negsuc 1) (pos 3)) ≡ from_to (negsuc 1) (pos 3))
    × (corner_range (λ x y. x *ℤ y) (from_to (negsuc 1) (pos 3)) (from_to (negsuc 4) (pos 7))
    ≡ from_to (negsuc 14) (pos 21))
    × (corner_range (λ x y. x *ℤ y) (from_to (negsuc 3) (pos 1)) (from_to (negsuc 4) (pos 7))
    ≡ from_to (negsuc 27) (pos 20))
    × (corner_range (λ x y. x -ℤ y) (from_to (pos 1) (pos 3)) (from_to (pos 10) (pos 20))
    ≡ from_to (negsuc 18) (negsuc 6))
    × (multiple_range 3 (from_to (negsuc 1) (pos 5)) ≡ from_to (negsuc 5) (pos 15))
    × (multiple_range 0 (from_to (negsuc 1) (pos 5)) ≡ only (pos 0))
    × (text_of (from_to (negsuc 4) (pos 10)) ≡ codes "-5..10")
unfolding digits
made = (refl, refl, refl, refl, refl, refl, refl, refl)

-- in Rust: intervals of 64 bits, wide bounds, and the one of them that an answer carries
of_intervals : (i : Interval) (w : Wide) → (range_of i ≡ from_to i.low i.high)
    × (wide_range_of w ≡ from_to w.low w.high)
    × (bounds_of (Ok i) ≡ range_of i) × (bounds_of (Err w) ≡ wide_range_of w)
of_intervals i w = (refl, refl, refl, refl)

-- ---- what the words say

module _ (a b c d l h x y z : ℤ) (n : ℕ) (Kind : ℤ → Type 0) where
  words : (Holds (from_to l h) z ↔ ((l ≤ℤ z) × (z ≤ℤ h))) × (IsOrdered (from_to l h) ≡ (l ≤ℤ h))
      × (IsWithin (from_to a b) (from_to l h) ↔ ((l ≤ℤ a) × (b ≤ℤ h)))
      × (FitsI64 (from_to l h) ≡ (FitsSigned w64 l × FitsSigned w64 h))
      × (IsLeast Kind (from_to l h)
      ↔ (((z : ℤ) → Kind z → Holds (from_to l h) z) × Kind l × Kind h))
      × (IsResult (λ x y. x -ℤ y) (from_to a b) (from_to l h) z
      ↔ ((x : ℤ) × (y : ℤ) × Holds (from_to a b) x × Holds (from_to l h) y × (x -ℤ y ≡ z)))
      × (IsMultiple n (from_to l h) z ↔ ((x : ℤ) × Holds (from_to l h) x × (pos n *ℤ x ≡ z)))
  words = (
    (λ r. (r.from, r.to), λ r. record { from = r.0; to = r.1 }),
    refl,
    (λ r. (r.from, r.to), λ r. record { from = r.0; to = r.1 }),
    refl,
    (λ r. (r.holds, r.low, r.high), λ r. record { holds = r.0; low = r.1; high = r.2 }),
    (
      λ r. (r.left, r.right, r.left_held, r.right_held, r.gives),
      λ r. record { left = r.0; right = r.1; left_held = r.2; right_held = r.3; gives = r.4 },
    ),
    (λ r. (r.value, r.held, r.gives), λ r. record { value = r.0; held = r.1; gives = r.2 }),
  )

laws : (op : ℤ → ℤ → ℤ) (f : Range → Range → Range)
    → (KeepsValues op f ≡ ((a b : Range) (x y : ℤ) → Holds a x → Holds b y
    → Holds (f a b) (op x y)))
    × (KeepsOrder f ≡ ((a b c d : Range) → IsOrdered a → IsOrdered b → IsWithin a c → IsWithin b d
    → IsWithin (f a b) (f c d)))
laws op f = (refl, refl)
