-- The hull of two ranges is the least range that holds what either holds.
use Rattle.std.proofs.Common.{rules}
use Rattle.star_interval.{specs.Range.Holds, specs.Range.hull, specs.Interval.range_of, proofs.Ranges.{range_same, least_same, least_held, least_hull}}
use Rattle.star_interval.proofs.Interval.hull.Goals as goal

pub returns-clause-ends : goal.returns-clause-ends
returns-clause-ends c = range_same _ _ (search rules) (search rules)

pub returns-clause-least : goal.returns-clause-least
returns-clause-least c =
    let a = c.args.self.now in
    let b = c.args.other.now in
    least_same _ _ (hull (range_of a) (range_of b)) (returns-clause-ends c)
    (least_hull (Holds (range_of a)) (Holds (range_of b)) (range_of a) (range_of b)
    (least_held (range_of a) a.ordered) (least_held (range_of b) b.ordered))
