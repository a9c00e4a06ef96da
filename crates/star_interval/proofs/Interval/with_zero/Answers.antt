-- The hull of a range and of 0 alone is the least range that holds what the first holds, and 0.
use Rattle.std.proofs.Common.{◌≡◌, arith}
use Rattle.star_interval.{specs.Range.hull, proofs.Ranges.{least_same, least_held, least_only, least_hull}}
use Rattle.star_interval.proofs.Interval.with_zero.Goals as goal

pub returns-clause-least : goal.returns-clause-least
returns-clause-least c = grind (arith, least_same, least_hull, least_held, least_only)
