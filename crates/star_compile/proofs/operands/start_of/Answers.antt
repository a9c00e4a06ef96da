use Rattle.std.proofs.Common.{rules}
use Rattle.star_compile.proofs.operands.start_of.Goals as goal

pub returns-in-Text : goal.returns-in-Text
returns-in-Text c = search rules
