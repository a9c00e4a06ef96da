-- How large a 64-bit number is that is taken some times.
use Rattle.std.proofs.Common.{◌≤◌, ◌*◌, ◌^◌, ℕ, ℤ, pos, negsuc, ◌+ℤ◌, ◌*ℤ◌, FitsSigned, w64, arith}
use Rattle.star_verify.proofs.Common.{ints, mul-le-mul_left, ◌≤ℤ◌}
use borrow.Author.Differences.{up, down, product_is}

pub above : (n : ℕ) (z : ℤ) → down z ≤ 2 ^ 63 → pos 0 ≤ℤ (pos n *ℤ z +ℤ pos (n * 2 ^ 63))
above n it h = grind (arith, ints, mul-le-mul_left)

pub below : (n : ℕ) (z : ℤ) → up z ≤ 2 ^ 63 → (pos n *ℤ z) ≤ℤ pos (n * 2 ^ 63)
below n it h = grind (arith, ints, mul-le-mul_left)

pub small_down : (z : ℤ) → FitsSigned w64 z → down z ≤ 2 ^ 63
small_down (pos m) fits = omega (arith, fits)
small_down (negsuc m) fits = omega (arith, fits)

pub small_up : (z : ℤ) → FitsSigned w64 z → up z ≤ 2 ^ 63
small_up (pos m) fits = omega (arith, fits)
small_up (negsuc m) fits = omega (arith, fits)
