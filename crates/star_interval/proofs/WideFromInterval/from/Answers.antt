use Rattle.std.proofs.Common.{rules}
use Rattle.star_interval.proofs.WideFromInterval.from.Goals as goal

pub returns : goal.returns
returns c = search rules
