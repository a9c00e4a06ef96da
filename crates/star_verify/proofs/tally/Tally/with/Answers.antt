use Rattle.std.proofs.Common.{◌+◌, Some, ◌*◌, ◌^◌, pos, ◌+ℤ◌, FitsSigned, w64, ap, subst, sym, ◌∙◌, arith, rules}
use Rattle.star_verify.proofs.{Common.{corner_range, hull, hull_with, ints, joined_reach, multiple_range, only, range_of, range_same, reach_view, sum_ends, wide_range_of, ◌≤ℤ◌}, Multiples.{above, below, small_down, small_up}}
use Rattle.star_verify.proofs.tally.Tally.with.Goals as goal

pub total-sum-requires-clause-more_low : goal.total-sum-requires-clause-more_low
total-sum-requires-clause-more_low c =
    let fits : FitsSigned w64 c.with_zero-widened.result.low = search rules in
    let low = ap (λ r. r.low) (c.times_wide-more.ensures.ends) in
    let least : pos 0 ≤ℤ (c.times_wide-more.result.low +ℤ pos (c.args.times * 2 ^ 63)) =
    subst (λ z. pos 0 ≤ℤ (z +ℤ pos (c.args.times * 2 ^ 63))) (sym low)
    (above c.args.times c.with_zero-widened.result.low (small_down _ fits)) in
    omega (arith, ints, least, c.requires.few)

pub total-sum-requires-clause-more_high : goal.total-sum-requires-clause-more_high
total-sum-requires-clause-more_high c =
    let fits : FitsSigned w64 c.with_zero-widened.result.high = search rules in
    let high = ap (λ r. r.high) (c.times_wide-more.ensures.ends) in
    let most : c.times_wide-more.result.high ≤ℤ pos (c.args.times * 2 ^ 63) =
    subst (λ z. z ≤ℤ pos (c.args.times * 2 ^ 63)) (sym high)
    (below c.args.times c.with_zero-widened.result.high (small_up _ fits)) in
    omega (arith, ints, most, c.requires.few)

pub returns-clause-shares : goal.returns-clause-shares
returns-clause-shares c = λ ss is.
    let sum = wide_range_of c.args.self.sum in
    let ends = sum_ends sum (wide_range_of c.times_wide-more.result) c.args.self.sum.ordered
    c.times_wide-more.result.ordered in
    let more = multiple_range c.args.times (hull (range_of c.args.range) (only (pos 0))) in
    record {
      sum = range_same (wide_range_of c.total-sum.result)
          (corner_range ◌+ℤ◌ sum (wide_range_of c.times_wide-more.result))
          (c.total-sum.ensures.low ∙ ends.0) (c.total-sum.ensures.high ∙ ends.1)
          ∙ ap (λ r. corner_range ◌+ℤ◌ sum r)
          (c.times_wide-more.ensures.ends
          ∙ ap (λ r. multiple_range c.args.times r) c.with_zero-widened.ensures.ends)
          ∙ ap (λ r. corner_range ◌+ℤ◌ r more) is.sum;
      many = ap (λ n. n + c.args.times) is.many;
      each = ap Some (c.with_range.ensures ∙ ap (λ o. hull_with o (range_of c.args.range)) is.each);
      reach = c.joined.ensures ∙ ap (λ r. joined_reach r (reach_view c.args.reach)) is.reach;
    }

pub returns-clause-bounded : goal.returns-clause-bounded
returns-clause-bounded c =
    let fits_low : FitsSigned w64 c.with_zero-widened.result.low = search rules in
    let fits_high : FitsSigned w64 c.with_zero-widened.result.high = search rules in
    let ends = c.times_wide-more.ensures.ends in
    let least : pos 0 ≤ℤ (c.times_wide-more.result.low +ℤ pos (c.args.times * 2 ^ 63)) =
    subst (λ z. pos 0 ≤ℤ (z +ℤ pos (c.args.times * 2 ^ 63))) (sym (ap (λ r. r.low) ends))
    (above c.args.times c.with_zero-widened.result.low (small_down _ fits_low)) in
    let most : c.times_wide-more.result.high ≤ℤ pos (c.args.times * 2 ^ 63) =
    subst (λ z. z ≤ℤ pos (c.args.times * 2 ^ 63)) (sym (ap (λ r. r.high) ends))
    (below c.args.times c.with_zero-widened.result.high (small_up _ fits_high)) in
    record {
      many = c.requires.few;
      low = omega (arith, ints, least, c.requires.bounded.low, c.total-sum.ensures.low);
      high = omega (arith, ints, most, c.requires.bounded.high, c.total-sum.ensures.high);
    }
