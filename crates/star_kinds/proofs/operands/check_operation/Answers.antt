use Rattle.std.proofs.Common.{rules}
use Rattle.star_kinds.proofs.operands.check_operation.Goals as goal

pub returns-in-Find : goal.returns-in-Find
returns-in-Find g c = search rules
