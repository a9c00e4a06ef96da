use Rattle.std.proofs.Common.{rules}
use Rattle.star_program.specs.TrapTexts.{kind_text}
use Rattle.star_program.proofs.fault.TrapKindDisplay.fmt.Goals as goal

pub returns-in-AbsentKey-clause-writes : goal.returns-in-AbsentKey-clause-writes
unfolding kind_text
returns-in-AbsentKey-clause-writes c = search rules
