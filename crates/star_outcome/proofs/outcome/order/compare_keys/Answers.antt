use Rattle.std.proofs.Common.{rules}
use Rattle.star_outcome.proofs.outcome.order.compare_keys.Goals as goal

pub returns-in-Some-None : goal.returns-in-Some-None
returns-in-Some-None c = search rules
