use Rattle.std.proofs.Common.{rules}
use Rattle.star_interval.proofs.Interval.point.Goals as goal

pub returns : goal.returns
returns c = search rules
