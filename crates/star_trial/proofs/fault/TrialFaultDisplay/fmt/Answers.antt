use Rattle.std.proofs.Common.{rules}
use Rattle.star_trial.specs.FaultTexts.{trial_fault_text}
use Rattle.star_trial.proofs.fault.TrialFaultDisplay.fmt.Goals as goal

pub returns-in-Limit-clause-writes : goal.returns-in-Limit-clause-writes
unfolding trial_fault_text
returns-in-Limit-clause-writes c = search rules
