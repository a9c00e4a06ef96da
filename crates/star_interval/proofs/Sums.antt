-- Sums and differences of held numbers.
use Rattle.std.proofs.{Common.◌≡◌, Common.arith, Common.◌+ℤ◌, Common.◌-ℤ◌, lemmas.Int.ints, lemmas.Int.clamps}
use Rattle.star_interval.{specs.Range.{Range, IsOrdered, IsLeast, IsResult, corner_range}, specs.Laws.{KeepsValues, KeepsOrder}, proofs.Ranges.{least_corners, corners_within}}

pub sums_held : KeepsValues ◌+ℤ◌ (corner_range ◌+ℤ◌)
sums_held a b x y p q = grind (arith, ints, clamps)

pub differences_held : KeepsValues ◌-ℤ◌ (corner_range ◌-ℤ◌)
differences_held a b x y p q = grind (arith, ints, clamps)

pub least_sums : (a b : Range) → IsOrdered a → IsOrdered b
    → IsLeast (IsResult ◌+ℤ◌ a b) (corner_range ◌+ℤ◌ a b)
least_sums = least_corners ◌+ℤ◌ sums_held

pub least_differences : (a b : Range) → IsOrdered a → IsOrdered b
    → IsLeast (IsResult ◌-ℤ◌ a b) (corner_range ◌-ℤ◌ a b)
least_differences = least_corners ◌-ℤ◌ differences_held

pub sums_within : KeepsOrder (corner_range ◌+ℤ◌)
sums_within = corners_within ◌+ℤ◌ sums_held

pub differences_within : KeepsOrder (corner_range ◌-ℤ◌)
differences_within = corners_within ◌-ℤ◌ differences_held

-- the corners that make the ends: the low ends and the high ends
pub sum_ends : (a b : Range) → IsOrdered a → IsOrdered b
    → (a.low +ℤ b.low ≡ (corner_range ◌+ℤ◌ a b).low)
    × (a.high +ℤ b.high ≡ (corner_range ◌+ℤ◌ a b).high)
sum_ends a b p q = (omega (arith, ints, clamps), omega (arith, ints, clamps))

-- and, of a difference, the opposite ends
pub difference_ends : (a b : Range) → IsOrdered a → IsOrdered b
    → (a.low -ℤ b.high ≡ (corner_range ◌-ℤ◌ a b).low)
    × (a.high -ℤ b.low ≡ (corner_range ◌-ℤ◌ a b).high)
difference_ends a b p q = (omega (arith, ints, clamps), omega (arith, ints, clamps))
