-- Products of held numbers, and held numbers taken n times.
use Rattle.std.proofs.{Common.ℕ, Common.◌+◌, Common.◌*◌, Common.◌≤◌, Common.arith, Common.ℤ, Common.pos, Common.negsuc, Common.◌*ℤ◌, Common.◌≤ℤ◌, Common.rules, lemmas.Int.ints, lemmas.Int.clamps, Math.Nat.mul-le-mul_left, Math.IntN.*ℤ_comm, lemmas.Grind.common_steps}
use borrow.Author.Differences.{up, down, le_out}
use Rattle.star_interval.{specs.Range.{Range, Holds, IsOrdered, IsWithin, IsLeast, IsResult, IsMultiple, only, hull, corner_range, multiple_range}, specs.Laws.{KeepsValues, KeepsOrder}, proofs.Ranges.{holds_within, hulls_within, within_only, least_corners, corners_within}}

-- a product grows with a factor where the other one is not negative
pub mul_grows : (n : ℕ) (a b : ℤ) → a ≤ℤ b → (a *ℤ pos n) ≤ℤ (b *ℤ pos n)
mul_grows n a b h = grind (arith, ints, up, down, mul-le-mul_left, le_out)

-- and falls where it is negative
pub mul_falls : (n : ℕ) (a b : ℤ) → a ≤ℤ b → (b *ℤ negsuc n) ≤ℤ (a *ℤ negsuc n)
mul_falls n a b h = grind (arith, ints, up, down, mul-le-mul_left, le_out)

-- ---- products

-- a number between two others lies in their hull, whichever is the lesser
between_up : (l m r : ℤ) → l ≤ℤ m → m ≤ℤ r → Holds (hull (only l) (only r)) m
between_up l m r p q = grind (arith, ints, clamps)

between_down : (l m r : ℤ) → r ≤ℤ m → m ≤ℤ l → Holds (hull (only l) (only r)) m
between_down l m r p q = grind (arith, ints, clamps)

-- a product lies between those of the left factor's ends
between_left : (r : Range) (x y : ℤ) → Holds r x
    → Holds (hull (only (r.low *ℤ y)) (only (r.high *ℤ y))) (x *ℤ y)
between_left r x (pos n) held = search (rules, between_up, mul_grows)
between_left r x (negsuc n) held =
    between_down _ _ _ (mul_falls n x r.high held.to) (mul_falls n r.low x held.from)

-- and between those of the right one's
between_right : (r : Range) (x y : ℤ) → Holds r y
    → Holds (hull (only (x *ℤ r.low)) (only (x *ℤ r.high))) (x *ℤ y)
between_right r x y held =
    rw (*ℤ_comm x y, *ℤ_comm x r.low, *ℤ_comm x r.high) (between_left r y x held)

pub products_held : KeepsValues ◌*ℤ◌ (corner_range ◌*ℤ◌)
products_held a b x y p q =
    holds_within (hull (only (a.low *ℤ y)) (only (a.high *ℤ y))) (corner_range ◌*ℤ◌ a b) (x *ℤ y)
    (hulls_within _ _ _ _ (within_only _ _ (between_right b a.low y q))
    (within_only _ _ (between_right b a.high y q))) (between_left a x y p)

pub least_products : (a b : Range) → IsOrdered a → IsOrdered b
    → IsLeast (IsResult ◌*ℤ◌ a b) (corner_range ◌*ℤ◌ a b)
least_products = least_corners ◌*ℤ◌ products_held

pub products_within : KeepsOrder (corner_range ◌*ℤ◌)
products_within = corners_within ◌*ℤ◌ products_held

-- ---- multiples

pub multiples_held : (n : ℕ) (r : Range) (z : ℤ) → Holds r z
    → Holds (multiple_range n r) (pos n *ℤ z)
multiples_held n r z held = grind (arith, common_steps)

pub least_multiples : (n : ℕ) (r : Range) → IsOrdered r
    → IsLeast (IsMultiple n r) (multiple_range n r)
least_multiples n r ordered = grind (arith, common_steps)

pub multiples_within : (n : ℕ) (a b : Range) → IsWithin a b
    → IsWithin (multiple_range n a) (multiple_range n b)
multiples_within n a b inside = grind (arith, common_steps)
