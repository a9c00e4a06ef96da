-- One tally allows no more than another.
use Rattle.std.proofs.{Common.{ℕ, ◌+◌, ◌*◌, ◌≤◌, Option, Some, None, arith}, lemmas.Grind.common_steps}
use Rattle.star_safety.proofs.{Common.{IsWithin, Range, hull_within, ints, mul-le-mul_left, mul-le-mul_right, within_hull_left, within_hull_right, within_trans}, Tally.{Tally, no_tally, joined_range, plus, times}}

-- a range that may be missing lies in another
abbrev pub LiesIn : Option Range → Option Range → Type 0
LiesIn None t = Unit {0}
LiesIn (Some r) None = ⊥
LiesIn (Some r) (Some s) = IsWithin r s

-- it adds up to no more, over no more numbers, each in no wider range
pub record AtMost (t u : Tally) : Type 0 where
  pub above : t.above ≤ u.above
  pub below : t.below ≤ u.below
  pub many : t.many ≤ u.many
  pub each : LiesIn t.each u.each

within_refl : (r : Range) → IsWithin r r
within_refl r = record { from = omega (arith, ints); to = omega (arith, ints) }

pub lies_in_refl : (s : Option Range) → LiesIn s s
lies_in_refl None = tt
lies_in_refl (Some r) = within_refl r

pub lies_in_trans : (s t u : Option Range) → LiesIn s t → LiesIn t u → LiesIn s u
lies_in_trans s t u p q = grind (arith, common_steps, within_trans)

pub lies_in_left : (s t : Option Range) → LiesIn s (joined_range s t)
lies_in_left None t = tt
lies_in_left (Some r) None = within_refl r
lies_in_left (Some r) (Some s) = within_hull_left r s

pub lies_in_right : (s t : Option Range) → LiesIn t (joined_range s t)
lies_in_right s t = grind (arith, common_steps, within_refl, within_hull_right)

pub lies_in_both : (s t u : Option Range) → LiesIn s u → LiesIn t u → LiesIn (joined_range s t) u
lies_in_both s t u p q = grind (arith, common_steps, hull_within)

pub at_most_refl : (t : Tally) → AtMost t t
at_most_refl t = grind (arith, common_steps, lies_in_refl)

pub at_most_trans : (t u v : Tally) → AtMost t u → AtMost u v → AtMost t v
at_most_trans t u v p q = grind (arith, common_steps, lies_in_trans)

pub at_most_plus : (t u : Tally) → AtMost t (plus t u)
at_most_plus t u = grind (arith, common_steps, lies_in_left)

-- sums may be grouped either way
pub at_most_assoc : (t u v : Tally) → AtMost (plus (plus t u) v) (plus t (plus u v))
at_most_assoc t u v = record {
  above = omega arith;
  below = omega arith;
  many = omega arith;
  each = lies_in_both (joined_range t.each u.each) v.each
      (joined_range t.each (joined_range u.each v.each))
      (lies_in_both t.each u.each (joined_range t.each (joined_range u.each v.each))
      (lies_in_left t.each (joined_range u.each v.each))
      (lies_in_trans u.each (joined_range u.each v.each)
      (joined_range t.each (joined_range u.each v.each)) (lies_in_left u.each v.each)
      (lies_in_right t.each (joined_range u.each v.each))))
      (lies_in_trans v.each (joined_range u.each v.each)
      (joined_range t.each (joined_range u.each v.each)) (lies_in_right u.each v.each)
      (lies_in_right t.each (joined_range u.each v.each)));
}

-- after a first sum, a second at most
pub at_most_both : (t t' u u' : Tally) → AtMost t t' → AtMost u u' → AtMost (plus t u) (plus t' u')
at_most_both t t' u u' p q = record {
  above = omega arith;
  below = omega arith;
  many = omega arith;
  each = lies_in_both t.each u.each (joined_range t'.each u'.each)
      (lies_in_trans t.each t'.each (joined_range t'.each u'.each) p.each
      (lies_in_left t'.each u'.each))
      (lies_in_trans u.each u'.each (joined_range t'.each u'.each) q.each
      (lies_in_right t'.each u'.each));
}

-- one more turn
pub at_most_turn : (k : ℕ) (t u : Tally)
    → AtMost (plus (plus t (times k u)) u) (plus t (times (k + 1) u))
at_most_turn k t u =
    grind (arith, common_steps, lies_in_both, joined_range, lies_in_refl, lies_in_right)

pub at_most_times : (k n : ℕ) (t : Tally) → k ≤ n → AtMost (times k t) (times n t)
at_most_times k n t h = grind (arith, common_steps, mul-le-mul_right, lies_in_refl)

pub at_most_once : (n : ℕ) (t : Tally) → 1 ≤ n → AtMost t (times n t)
at_most_once n t h = grind (arith, common_steps, at_most_times, lies_in_refl)

-- what is added n times in two parts
pub at_most_spread : (n : ℕ) (t u v : Tally)
    → AtMost (plus t (times n (plus u v))) (plus (plus t (times n u)) (times n v))
at_most_spread n t u v = record {
  above = omega arith;
  below = omega arith;
  many = omega arith;
  each = lies_in_both t.each (joined_range u.each v.each)
      (joined_range (joined_range t.each u.each) v.each)
      (lies_in_trans t.each (joined_range t.each u.each)
      (joined_range (joined_range t.each u.each) v.each) (lies_in_left t.each u.each)
      (lies_in_left (joined_range t.each u.each) v.each))
      (lies_in_both u.each v.each (joined_range (joined_range t.each u.each) v.each)
      (lies_in_trans u.each (joined_range t.each u.each)
      (joined_range (joined_range t.each u.each) v.each) (lies_in_right t.each u.each)
      (lies_in_left (joined_range t.each u.each) v.each))
      (lies_in_right (joined_range t.each u.each) v.each));
}

pub at_most_product : (n k : ℕ) (t u : Tally)
    → AtMost (plus t (times n (times k u))) (plus t (times (n * k) u))
at_most_product n k t u = grind (arith, common_steps, lies_in_refl, joined_range)

pub at_most_times_both : (n : ℕ) (t u : Tally) → AtMost t u → AtMost (times n t) (times n u)
at_most_times_both n t u p = grind (arith, common_steps, mul-le-mul_left)

-- nothing is added
pub at_most_nothing : (n : ℕ) (t : Tally) → AtMost (plus t (times n no_tally)) t
at_most_nothing n t = grind (arith, common_steps, lies_in_both, lies_in_refl)
