use Rattle.std.proofs.Common.{rules}
use Rattle.star_program.specs.Text.FaultTexts.{text_fault_text}
use Rattle.star_program.proofs.spelling.fault.TextFaultDisplay.fmt.Goals as goal

pub returns-in-OpenScan-clause-writes : goal.returns-in-OpenScan-clause-writes
unfolding text_fault_text
returns-in-OpenScan-clause-writes c = search rules
