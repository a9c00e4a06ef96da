use Rattle.std.proofs.Common.{rules}
use Rattle.star_interval.proofs.Interval.holds.Goals as goal

pub returns-then-self-value : goal.returns-then-self-value
returns-then-self-value c = search rules
