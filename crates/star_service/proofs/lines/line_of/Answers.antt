use Rattle.std.proofs.Common.{rules}
use Rattle.star_service.specs.Lines.{fault_line}
use Rattle.star_service.proofs.lines.line_of.Goals as goal

pub returns : goal.returns
unfolding fault_line
returns c = search rules
