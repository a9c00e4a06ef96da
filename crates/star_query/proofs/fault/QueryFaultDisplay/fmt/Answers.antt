use Rattle.std.proofs.Common.{rules}
use Rattle.star_query.specs.FaultTexts.{query_fault_text}
use Rattle.star_query.proofs.fault.QueryFaultDisplay.fmt.Goals as goal

pub returns-in-TooDeep-clause-writes : goal.returns-in-TooDeep-clause-writes
unfolding query_fault_text
returns-in-TooDeep-clause-writes c = search rules
