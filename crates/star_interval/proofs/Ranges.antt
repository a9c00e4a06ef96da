-- Ranges that hold a number or lie in one another, least ranges, and what is so of any operation's
-- corners.
use Rattle.std.{proofs.Common.{◌≡◌, ◌⊎◌, true, false, cond, refl, sym, subst, arith, ℤ, pos, negsuc, ◌≤ℤ◌, int_lt, FitsSigned, w64, IsTrue, ◌↔◌, ◌^◌, rules}, proofs.lemmas.Bool.{ltb-true, lt-ltb, and_parts, and_from}, proofs.lemmas.Int.{ints, clamps}, proofs.lemmas.Grind.common_steps, specs.Int.{Width, w128, int_min, int_max}}
use Rattle.star_interval.specs.{Range.{Range, Holds, IsOrdered, IsWithin, FitsI64, is_i64, fits_i64, FitsI128, is_i128, IsLeast, IsResult, only, hull, corner_range}, Laws.{KeepsValues, KeepsOrder}}

-- ranges with the same ends are equal
pub range_same : (a b : Range) → a.low ≡ b.low → a.high ≡ b.high → a ≡ b
range_same a b low high = λ i. record { low = low i; high = high i }

-- ---- held numbers

pub holds_low : (r : Range) → IsOrdered r → Holds r r.low
holds_low r ordered = record { from = omega (arith, ints); to = ordered }

pub holds_high : (r : Range) → IsOrdered r → Holds r r.high
holds_high r ordered = record { from = ordered; to = omega (arith, ints) }

pub holds_only : (n z : ℤ) → z ≡ n → Holds (only n) z
holds_only n z same = record { from = omega (arith, ints); to = omega (arith, ints) }

fits_between : (w : Width) (low high z : ℤ) → FitsSigned w low → FitsSigned w high
    → low ≤ℤ z → z ≤ℤ high → FitsSigned w z
fits_between w low (pos h) (pos n) f g p q = grind (arith, ints)
fits_between w low (negsuc h) (pos n) f g p q = absurd (omega (arith, ints))
fits_between w (pos l) high (negsuc n) f g p q = absurd (omega (arith, ints))
fits_between w (negsuc l) high (negsuc n) f g p q = grind (arith, ints)

-- a range of 64 bits holds numbers of 64 bits alone, and one of 128 bits those of 128 bits
pub fits_held : (r : Range) (z : ℤ) → FitsI64 r → Holds r z → FitsSigned w64 z
fits_held r z fits held = fits_between w64 r.low r.high z fits.0 fits.1 held.from held.to

pub fits_i128_held : (r : Range) (z : ℤ) → FitsI128 r → Holds r z → FitsSigned w128 z
fits_i128_held r z fits held = fits_between w128 r.low r.high z fits.0 fits.1 held.from held.to

-- the tests are true of numbers of their bits, and of ranges of 64 bits, alone
pub is_i64_fits : (z : ℤ) → IsTrue (is_i64 z) ↔ FitsSigned w64 z
unfolding is_i64
is_i64_fits (pos n) = grind (arith, ltb-true, lt-ltb)
is_i64_fits (negsuc n) = grind (arith, ltb-true, lt-ltb)

pub is_i128_fits : (z : ℤ) → IsTrue (is_i128 z) ↔ FitsSigned w128 z
unfolding is_i128
is_i128_fits (pos n) = grind (arith, ltb-true, lt-ltb)
is_i128_fits (negsuc n) = grind (arith, ltb-true, lt-ltb)

pub fits_i64_fits : (r : Range) → IsTrue (fits_i64 r) ↔ FitsI64 r
fits_i64_fits r = grind (arith, and_parts, is_i64_fits, and_from)

-- ---- one range in another

pub holds_within : (a b : Range) (z : ℤ) → IsWithin a b → Holds a z → Holds b z
holds_within a b z inside held = record { from = omega (arith, ints); to = omega (arith, ints) }

pub within_trans : (a b c : Range) → IsWithin a b → IsWithin b c → IsWithin a c
within_trans a b c p q = record { from = omega (arith, ints); to = omega (arith, ints) }

pub within_only : (r : Range) (z : ℤ) → Holds r z → IsWithin (only z) r
within_only r z held = record { from = held.from; to = held.to }

pub within_hull_left : (a b : Range) → IsWithin a (hull a b)
within_hull_left a b = grind (arith, ints, clamps)

pub within_hull_right : (a b : Range) → IsWithin b (hull a b)
within_hull_right a b = grind (arith, ints, clamps)

pub hull_within : (a b c : Range) → IsWithin a c → IsWithin b c → IsWithin (hull a b) c
hull_within a b c p q = grind (arith, ints, clamps)

-- ---- hulls of held numbers, and of smaller ranges

pub hulls_held : (a b : Range) (z : ℤ) → Holds a z ⊎ Holds b z → Holds (hull a b) z
hulls_held a b z = grind (arith, holds_within, within_hull_left, within_hull_right)

pub hulls_within : (a b c d : Range) → IsWithin a c → IsWithin b d → IsWithin (hull a b) (hull c d)
hulls_within a b c d p q = grind (arith, common_steps)

pub hulls_held_with : (r : Range) (n z : ℤ) → Holds r z ⊎ (z ≡ n) → Holds (hull r (only n)) z
hulls_held_with r n z = grind (arith, common_steps)

pub hulls_within_with : (n : ℤ) (a b : Range) → IsWithin a b
    → IsWithin (hull a (only n)) (hull b (only n))
hulls_within_with n a b inside = grind (arith, common_steps)

-- ---- least ranges

-- the least range lies in each that holds the same numbers
pub least_within : (Kind : ℤ → Type 0) (r s : Range) → IsLeast Kind r
    → ((z : ℤ) → Kind z → Holds s z) → IsWithin r s
least_within Kind r s least held = grind arith

pub least_same : (Kind : ℤ → Type 0) (r s : Range) → r ≡ s → IsLeast Kind s → IsLeast Kind r
least_same Kind r s same least = subst (IsLeast Kind) (sym same) least

-- a range is the least that holds its own numbers
pub least_held : (r : Range) → IsOrdered r → IsLeast (Holds r) r
least_held r ordered = grind (arith, holds_low, holds_high)

pub least_only : (n : ℤ) → IsLeast (λ z. z ≡ n) (only n)
least_only n = record { holds = holds_only n; low = refl; high = refl }

-- what is so for two numbers is so for the lesser and for the greater
of_min : (P : ℤ → Type 0) (x y : ℤ) → P x → P y → P (int_min x y)
of_min P x y px py = elim (int_lt y x) as (λ b. P (cond b y x)) [ true ↦ py | false ↦ px ]

of_max : (P : ℤ → Type 0) (x y : ℤ) → P x → P y → P (int_max x y)
of_max P x y px py = elim (int_lt y x) as (λ b. P (cond b x y)) [ true ↦ px | false ↦ py ]

-- the hull of the least ranges of two kinds is the least range of both
pub least_hull : (K L : ℤ → Type 0) (a b : Range) → IsLeast K a → IsLeast L b
    → IsLeast (λ z. K z ⊎ L z) (hull a b)
least_hull K L a b p q = search (rules, hulls_held, of_min, of_max)

-- ---- corners

result_of : (op : ℤ → ℤ → ℤ) (a b : Range) (x y : ℤ) → Holds a x → Holds b y
    → IsResult op a b (op x y)
result_of op a b x y p q = grind arith

-- where the range over the corners holds every result, it is the least that does
pub least_corners : (op : ℤ → ℤ → ℤ) → KeepsValues op (corner_range op)
    → (a b : Range) → IsOrdered a → IsOrdered b → IsLeast (IsResult op a b) (corner_range op a b)
least_corners op held a b p q =
    let Result = IsResult op a b in
    let low_low : Result (op a.low b.low) =
    result_of op a b a.low b.low (holds_low a p) (holds_low b q) in
    let low_high : Result (op a.low b.high) =
    result_of op a b a.low b.high (holds_low a p) (holds_high b q) in
    let high_low : Result (op a.high b.low) =
    result_of op a b a.high b.low (holds_high a p) (holds_low b q) in
    let high_high : Result (op a.high b.high) =
    result_of op a b a.high b.high (holds_high a p) (holds_high b q) in
    record {
      holds = λ z r. subst (Holds (corner_range op a b)) r.gives
          (held a b r.left r.right r.left_held r.right_held);
      low = of_min Result _ _ (of_min Result _ _ low_low low_high)
          (of_min Result _ _ high_low high_high);
      high = of_max Result _ _ (of_max Result _ _ low_low low_high)
          (of_max Result _ _ high_low high_high);
    }

-- and it lies in that of any two ranges round these
pub corners_within : (op : ℤ → ℤ → ℤ) → KeepsValues op (corner_range op)
    → KeepsOrder (corner_range op)
corners_within op held a b c d p q inside_c inside_d =
    let outer : (z : ℤ) → IsResult op a b z → Holds (corner_range op c d) z =
    λ z r. subst (Holds (corner_range op c d)) r.gives
    (held c d r.left r.right (holds_within a c r.left inside_c r.left_held)
    (holds_within b d r.right inside_d r.right_held)) in
    least_within (IsResult op a b) (corner_range op a b) (corner_range op c d)
    (least_corners op held a b p q) outer
