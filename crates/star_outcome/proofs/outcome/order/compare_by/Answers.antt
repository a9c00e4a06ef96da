use Rattle.std.proofs.Common.{rules}
use Rattle.star_outcome.proofs.outcome.order.compare_by.Goals as goal

pub returns-in-Descending : goal.returns-in-Descending
returns-in-Descending c = search rules
