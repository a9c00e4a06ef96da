-- Ranges whose ends are no larger than a number.
use Rattle.std.proofs.{Common.{◌≡◌, ℕ, ◌+◌, ◌*◌, ◌^◌, ◌≤◌, ◌<◌, Bool, true, false, cond, arith, int_lt}, lemmas.Grind.common_steps}
use Rattle.star_safety.proofs.Common.{FitsI128, FitsI64, Range, and_parts, corner_range, fits_i64, fits_signed_from_abs, hull, ints, is_i64, ltb-true, mul-le-mul_left, mul-le-mul_right, multiple_range, negsuc, only, pos, unsigned_abs, unsigned_abs-mul, w128, widened, ℤ, ◌*ℤ◌, ◌+ℤ◌, ◌-ℤ◌, ◌≤ℤ◌}
use Rattle.star_interval.proofs.Ranges as ranges

abbrev pub Small : ℕ → Range → Type 0
Small n r = (unsigned_abs r.low ≤ n) × (unsigned_abs r.high ≤ n)

pub small_more : (n m : ℕ) (r : Range) → n ≤ m → Small n r → Small m r
small_more n m r h p = (omega (arith, h, p.0), omega (arith, h, p.1))

-- ---- numbers

ends : (z : ℤ) → (z ≤ℤ pos (unsigned_abs z)) × ((pos 0 -ℤ pos (unsigned_abs z)) ≤ℤ z)
ends (pos n) = (omega (arith, ints), omega (arith, ints))
ends (negsuc n) = (omega (arith, ints), omega (arith, ints))

abs_within : (n : ℕ) (z : ℤ) → z ≤ℤ pos n → (pos 0 -ℤ pos n) ≤ℤ z → unsigned_abs z ≤ n
abs_within n (pos m) high low = omega (arith, ints, high)
abs_within n (negsuc m) high low = omega (arith, ints, low)

pub sum_abs : (x y s : ℤ) → s ≡ x +ℤ y → unsigned_abs s ≤ unsigned_abs x + unsigned_abs y
sum_abs x y s e = grind (arith, common_steps, ends, abs_within, unsigned_abs, ints)

pub difference_abs : (x y s : ℤ) → s ≡ x -ℤ y → unsigned_abs s ≤ unsigned_abs x + unsigned_abs y
difference_abs x y s e = grind (arith, common_steps, ends, abs_within, unsigned_abs, ints)

pub product_abs : (n m : ℕ) (x y : ℤ) → unsigned_abs x ≤ n → unsigned_abs y ≤ m
    → unsigned_abs (x *ℤ y) ≤ n * m
product_abs n m x y p q =
    grind (arith, common_steps, ints, unsigned_abs-mul, mul-le-mul_right, mul-le-mul_left)

is_small : (z : ℤ) → is_i64 z ≡ true → unsigned_abs z ≤ 2 ^ 63
unfolding is_i64
is_small (pos n) e = let h = ltb-true n (2 ^ 63) e in omega (arith, h)
is_small (negsuc n) e = let h = ltb-true n (2 ^ 63) e in omega (arith, h)

-- ---- ranges

pub fits_small : (r : Range) → fits_i64 r ≡ true → Small (2 ^ 63) r
fits_small r e = let p =
    and_parts (is_i64 r.low) (is_i64 r.high) e in (is_small r.low p.0, is_small r.high p.1)

pub i64_small : (r : Range) → FitsI64 r → Small (2 ^ 63) r
i64_small r fits = fits_small r ((ranges.fits_i64_fits r).1 fits)

pub small_fits : (n : ℕ) (r : Range) → n < 2 ^ 127 → Small n r → FitsI128 r
small_fits n r h p = grind (arith, common_steps, fits_signed_from_abs, w128, unsigned_abs)

pub only_small : (n : ℕ) (z : ℤ) → unsigned_abs z ≤ n → Small n (only z)
only_small n z h = (h, h)

-- one of two numbers
either_small : (n : ℕ) (b : Bool) (x y : ℤ) → unsigned_abs x ≤ n → unsigned_abs y ≤ n
    → unsigned_abs (cond b x y) ≤ n
either_small n true x y p q = p
either_small n false x y p q = q

pub hull_small : (n : ℕ) (a b : Range) → Small n a → Small n b → Small n (hull a b)
hull_small n a b p q = grind (arith, common_steps, either_small, int_lt)

pub corner_small : (operation : ℤ → ℤ → ℤ) (n m k : ℕ)
    → ((x y : ℤ) → unsigned_abs x ≤ n → unsigned_abs y ≤ m → unsigned_abs (operation x y) ≤ k)
    → (a b : Range) → Small n a → Small m b → Small k (corner_range operation a b)
corner_small operation n m k keeps a b p q =
    grind (arith, common_steps, ints, hull_small, hull, only, only_small)

pub widened_small : (n : ℕ) (r : Range) → Small n r → Small n (widened r)
widened_small n r p = hull_small n r (only (pos 0)) p (only_small n (pos 0) (omega arith))

pub multiple_small : (n k : ℕ) (r : Range) → Small k r → Small (n * k) (multiple_range n r)
multiple_small n k r p = grind (arith, common_steps, product_abs, pos)
