use Rattle.std.proofs.Common.{rules}
use Rattle.star_outcome.proofs.flow.Flow.of.Goals as goal

pub returns-else-flag : goal.returns-else-flag
returns-else-flag c = search rules
