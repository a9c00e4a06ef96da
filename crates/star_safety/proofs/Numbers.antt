-- Numbers in ranges, and in their bits.
use Rattle.std.proofs.{Common.{◌≡◌, ◌^◌, ◌≤◌, ◌<◌, true, refl, arith, inl, inr}, lemmas.Grind.common_steps}
use Rattle.star_safety.proofs.Common.{Holds, Range, and_parts, fits_i64, hull, ints, is_i128, is_i64, lt-ltb, negsuc, only, pos, ℤ, ◌≤ℤ◌}
use borrow.Author.Differences.{up, down}
use Rattle.star_interval.proofs.Ranges as ranges

pub holds_itself : (z : ℤ) → Holds (only z) z
holds_itself z = ranges.holds_only z z refl

pub holds_hull_left : (a b : Range) (z : ℤ) → Holds a z → Holds (hull a b) z
holds_hull_left a b z held = ranges.hulls_held a b z (inl held)

pub holds_hull_right : (a b : Range) (z : ℤ) → Holds b z → Holds (hull a b) z
holds_hull_right a b z held = ranges.hulls_held a b z (inr held)

-- a number in a range of 64 bits
pub fits_held : (r : Range) (z : ℤ) → fits_i64 r ≡ true → Holds r z → is_i64 z ≡ true
fits_held r z fits held =
    let fit = ranges.fits_held r z ((ranges.fits_i64_fits r).0 fits) held in
    (and_parts (is_i64 z) (is_i64 z) ((ranges.fits_i64_fits (only z)).1 (fit, fit))).0

-- how far a number of 128 bits lies above 0 and below it
pub fits_in : (z : ℤ) → up z < 2 ^ 127 → down z ≤ 2 ^ 127 → is_i128 z ≡ true
unfolding is_i128
fits_in (pos n) p q = lt-ltb n (2 ^ 127) p
fits_in (negsuc n) p q = lt-ltb n (2 ^ 127) q

pub up_grows : (a b : ℤ) → a ≤ℤ b → (up a ≤ up b) × (down b ≤ down a)
up_grows a b h = grind (arith, common_steps, ints)
