-- The range over the corners is the least that holds all sums.
use Rattle.star_interval.{specs.Interval.range_of, proofs.Sums.least_sums}
use Rattle.star_interval.proofs.Interval.add.Goals as goal

pub returns-clause-least : goal.returns-clause-least
returns-clause-least c =
    let a = c.args.self.now in
    let b = c.args.other.now in
    rw (c.narrow.ensures.bounds, c.add_wide.ensures)
    (least_sums (range_of a) (range_of b) a.ordered b.ordered)
