-- The sums of the low ends and of the high ends are the least and the greatest over the corners.
use Rattle.std.proofs.{Common.arith, lemmas.Int.ints}
use Rattle.star_interval.{specs.Interval.range_of, proofs.Ranges.range_same, proofs.Sums.sum_ends}
use Rattle.star_interval.proofs.Interval.add_wide.Goals as goal

pub returns : goal.returns
returns c =
    let a = c.args.self.now in
    let b = c.args.other.now in
    let ends = sum_ends (range_of a) (range_of b) a.ordered b.ordered in
    range_same _ _ (omega (arith, ints)) (omega (arith, ints))
