use Rattle.std.proofs.Common.{rules}
use Rattle.star_plan.specs.FaultTexts.{plan_fault_text}
use Rattle.star_plan.proofs.fault.PlanFaultDisplay.fmt.Goals as goal

pub returns-in-NotGrouped-clause-writes : goal.returns-in-NotGrouped-clause-writes
unfolding plan_fault_text
returns-in-NotGrouped-clause-writes c = search rules
