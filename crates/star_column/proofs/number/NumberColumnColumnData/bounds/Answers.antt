use Rattle.star_interval.specs.Interval.{range_of}
use Rattle.star_column.proofs.Extremes.{all_between}
use Rattle.star_column.proofs.number.NumberColumnColumnData.bounds.Goals as goal

pub returns-clause-held : goal.returns-clause-held
returns-clause-held c =
    let bounds = c.self.invariant.1 in
    rw (← c.self.view_is)
    (all_between (range_of c.self.inside.bounds) c.self.inside.numbers.items bounds.low
    bounds.high)
