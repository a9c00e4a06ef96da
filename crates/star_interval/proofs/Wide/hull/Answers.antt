-- End by end.
use Rattle.std.proofs.Common.{rules}
use Rattle.star_interval.proofs.Ranges.{range_same}
use Rattle.star_interval.proofs.Wide.hull.Goals as goal

pub returns : goal.returns
returns c = range_same _ _ (search rules) (search rules)
