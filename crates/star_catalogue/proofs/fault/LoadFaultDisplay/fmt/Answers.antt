use Rattle.std.proofs.Common.{rules}
use Rattle.star_catalogue.specs.FaultTexts.{record_fault_text}
use Rattle.star_catalogue.proofs.fault.LoadFaultDisplay.fmt.Goals as goal

pub returns-in-DuplicateKey-clause-writes : goal.returns-in-DuplicateKey-clause-writes
unfolding record_fault_text
returns-in-DuplicateKey-clause-writes c = search rules
