use Rattle.std.proofs.Common.{rules}
use Rattle.star_outcome.proofs.outcome.cells.total_cell.Goals as goal

pub returns-in-None : goal.returns-in-None
returns-in-None c = search rules
