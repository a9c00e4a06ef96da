-- The range of the ends taken n times is the least that holds all multiples.
use Rattle.std.proofs.Common.{rules}
use Rattle.star_interval.{specs.Range.multiple_range, specs.Interval.range_of, proofs.Ranges.{range_same, least_same, holds_high}, proofs.Products.{multiples_held, least_multiples}}
use Rattle.star_interval.proofs.Interval.times_wide.Goals as goal

pub invariant_of-result : goal.invariant_of-result
invariant_of-result c =
    let a = range_of c.args.self.now in
    let held = multiples_held c.args.n a a.high (holds_high a c.args.self.now.ordered) in
    record { ordered = search (rules, held.from) }

pub returns-clause-ends : goal.returns-clause-ends
returns-clause-ends c = range_same _ _ (search rules) (search rules)

pub returns-clause-least : goal.returns-clause-least
returns-clause-least c =
    let a = c.args.self.now in
    least_same _ _ (multiple_range c.args.n (range_of a)) (returns-clause-ends c)
    (least_multiples c.args.n (range_of a) a.ordered)
