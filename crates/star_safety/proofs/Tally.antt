-- What numbers add up to, as two whole numbers: how far the negative ones go below 0, and the
-- positive ones above it. So all that is said of sums is linear.
use Rattle.std.proofs.{Common.{◌≡◌, ℕ, zero, suc, ◌+◌, ◌*◌, ◌^◌, Bool, List, [], ◌∷◌, Option, Some, None, refl, ap, ◌∙◌, arith}, lemmas.Grind.common_steps}
use Rattle.star_safety.proofs.Common.{Aggregate, Count, IsOrdered, Max, Min, Range, Share, Shares, Sum, aggregate_range, clamps, corner_range, hull, hull_of, hull_with, int_max, int_min, ints, most_of, multiple_range, nat_le, nat_lt, neg_ℤ, negsuc, pos, range_same, sum_ends, sum_range, widened, ℤ, ◌&&◌, ◌*ℤ◌, ◌+ℤ◌}
use borrow.Author.Differences.{up, down}

-- of the numbers that updates give an aggregate
pub record Tally : Type 0 where
  -- how far below 0 the negative ones add up
  pub below : ℕ
  -- how far above 0 the positive ones add up
  pub above : ℕ
  -- how many there are
  pub many : ℕ
  -- the range that each lies in, where there is one
  pub each : Option Range

abbrev pub no_tally : Tally
no_tally = record { below = 0; above = 0; many = 0; each = None }

-- one number of this range: it adds up to no less than the range's low end or 0, and to no more
-- than its high end or 0. `down` is how far a number lies below 0, and `up` how far above
abbrev pub once : Range → Tally
once r = record { below = down r.low; above = up r.high; many = 1; each = Some r }

abbrev pub joined_range : Option Range → Option Range → Option Range
joined_range None s = s
joined_range (Some r) None = Some r
joined_range (Some r) (Some s) = Some (hull r s)

abbrev pub plus : Tally → Tally → Tally
plus a b = record {
  below = a.below + b.below;
  above = a.above + b.above;
  many = a.many + b.many;
  each = joined_range a.each b.each;
}

abbrev pub times : ℕ → Tally → Tally
times n a = record { below = n * a.below; above = n * a.above; many = n * a.many; each = a.each }

-- one for each group and each of its aggregates, by their numbers
abbrev pub Tallies : Type 0
Tallies = ℕ → ℕ → Tally

abbrev pub no_tallies : Tallies
no_tallies g a = no_tally

abbrev pub plus_all : Tallies → Tallies → Tallies
plus_all x y g a = plus (x g a) (y g a)

abbrev pub times_all : ℕ → Tallies → Tallies
times_all n x g a = times n (x g a)

-- ---- of puts

abbrev pub tally_of : List Share → Tally
tally_of [] = no_tally
tally_of (s ∷ ss) = plus (tally_of ss) (times s.met (once s.range))

abbrev pub tallies_of : Shares → Tallies
tallies_of shares g a = tally_of (shares g a)

-- ---- the range of an aggregate

abbrev pub tally_sum : Tally → Range
tally_sum t = record { low = neg_ℤ (pos t.below); high = pos t.above }

abbrev pub tally_range : Aggregate → Tally → Option Range
tally_range Sum t = Some (tally_sum t)
tally_range Count t = Some (record { low = pos 0; high = pos t.many })
tally_range Min t = t.each
tally_range Max t = t.each

-- a SUM lies in 128 bits
abbrev pub sum_fits : Tally → Bool
sum_fits t = nat_le t.below (2 ^ 127) && nat_lt t.above (2 ^ 127)

-- ---- it is that of the puts

down_is : (z : ℤ) → int_min z (pos 0) ≡ neg_ℤ (pos (down z))
down_is (pos n) = omega (arith, ints, clamps)
down_is (negsuc n) = omega (arith, ints, clamps)

up_is : (z : ℤ) → int_max z (pos 0) ≡ pos (up z)
up_is (pos n) = omega (arith, ints, clamps)
up_is (negsuc n) = omega (arith, ints, clamps)

times_down : (n d : ℕ) → pos n *ℤ neg_ℤ (pos d) ≡ neg_ℤ (pos (n * d))
times_down n zero = omega (arith, ints)
times_down n (suc d) = omega (arith, ints)

times_up : (n u : ℕ) → pos n *ℤ pos u ≡ pos (n * u)
times_up n u = omega (arith, ints)

-- one put
share_sum : (n : ℕ) (r : Range) → multiple_range n (widened r) ≡ tally_sum (times n (once r))
share_sum n r = grind (arith, common_steps, range_same, pos, down_is, times_down, up_is, times_up)

tally_ordered : (t : Tally) → IsOrdered (tally_sum t)
tally_ordered t = omega (arith, ints)

both_sums : (t u : Tally) → corner_range ◌+ℤ◌ (tally_sum t) (tally_sum u) ≡ tally_sum (plus t u)
both_sums t u = grind (arith, common_steps, sum_ends, tally_ordered, range_same, ints)

pub sum_range_is : (ss : List Share) → sum_range ss ≡ tally_sum (tally_of ss)
sum_range_is [] = refl
sum_range_is (s ∷ ss) =
    ap (λ r. corner_range ◌+ℤ◌ r (multiple_range s.met (widened s.range))) (sum_range_is ss)
    ∙ ap (corner_range ◌+ℤ◌ (tally_sum (tally_of ss))) (share_sum s.met s.range)
    ∙ both_sums (tally_of ss) (times s.met (once s.range))

pub most_is : (ss : List Share) → most_of ss ≡ (tally_of ss).many
most_is [] = refl
most_is (s ∷ ss) = omega (arith, most_is ss)

hull_joined : (o : Option Range) (r : Range) → Some (hull_with o r) ≡ joined_range o (Some r)
hull_joined None r = refl
hull_joined (Some s) r = refl

pub hull_is : (ss : List Share) → hull_of ss ≡ (tally_of ss).each
hull_is [] = refl
hull_is (s ∷ ss) =
    ap (λ o. Some (hull_with o s.range)) (hull_is ss) ∙ hull_joined (tally_of ss).each s.range

pub range_is : (g : Aggregate) (ss : List Share) → aggregate_range g ss ≡ tally_range g
    (tally_of ss)
range_is g ss = grind (arith, common_steps, sum_range_is, pos, most_is, hull_is)
