use Rattle.std.proofs.Common.{rules}
use Rattle.star_outcome.proofs.lookups.edge_index.Goals as goal

pub returns-in-Low : goal.returns-in-Low
returns-in-Low c = search rules
