-- The differences of opposite ends are the least and the greatest over the corners.
use Rattle.std.proofs.{Common.arith, lemmas.Int.ints}
use Rattle.star_interval.{specs.Interval.range_of, proofs.Ranges.range_same, proofs.Sums.difference_ends}
use Rattle.star_interval.proofs.Interval.sub_wide.Goals as goal

pub invariant_of-result : goal.invariant_of-result
invariant_of-result c =
    let a = c.args.self.now in
    let b = c.args.other.now in
    record { ordered = omega (arith, ints, a.ordered, b.ordered) }

pub returns : goal.returns
returns c =
    let a = c.args.self.now in
    let b = c.args.other.now in
    let ends = difference_ends (range_of a) (range_of b) a.ordered b.ordered in
    range_same _ _ (omega (arith, ints)) (omega (arith, ints))
