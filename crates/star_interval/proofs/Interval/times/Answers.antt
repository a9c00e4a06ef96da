-- The bounds of the multiples, as an interval or as they are.
use Rattle.star_interval.proofs.Interval.times.Goals as goal

pub returns-clause-least : goal.returns-clause-least
returns-clause-least c = rw c.narrow.ensures.bounds c.times_wide.ensures.least
