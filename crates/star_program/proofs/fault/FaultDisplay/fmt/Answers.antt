use Rattle.std.proofs.Common.{rules}
use Rattle.star_program.specs.TrapTexts.{wrong_text}
use Rattle.star_program.proofs.fault.FaultDisplay.fmt.Goals as goal

pub returns-clause-writes : goal.returns-clause-writes
unfolding wrong_text
returns-clause-writes c = search rules
