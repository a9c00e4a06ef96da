-- The range over the corners is the least that holds all products.
use Rattle.star_interval.{specs.Interval.range_of, proofs.Products.least_products}
use Rattle.star_interval.proofs.Interval.mul.Goals as goal

pub returns-clause-least : goal.returns-clause-least
returns-clause-least c =
    let a = c.args.self.now in
    let b = c.args.other.now in
    rw (c.narrow.ensures.bounds, c.mul_wide.ensures)
    (least_products (range_of a) (range_of b) a.ordered b.ordered)
