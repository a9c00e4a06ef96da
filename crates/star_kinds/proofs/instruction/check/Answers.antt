use Rattle.std.proofs.Common.{rules}
use Rattle.star_kinds.proofs.instruction.check.Goals as goal

pub returns-in_err-refuse : goal.returns-in_err-refuse
returns-in_err-refuse c = search rules
