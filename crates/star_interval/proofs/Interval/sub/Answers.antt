-- The range over the corners is the least that holds all differences.
use Rattle.star_interval.{specs.Interval.range_of, proofs.Sums.least_differences}
use Rattle.star_interval.proofs.Interval.sub.Goals as goal

pub returns-clause-least : goal.returns-clause-least
returns-clause-least c =
    let a = c.args.self.now in
    let b = c.args.other.now in
    rw (c.narrow.ensures.bounds, c.sub_wide.ensures)
    (least_differences (range_of a) (range_of b) a.ordered b.ordered)
