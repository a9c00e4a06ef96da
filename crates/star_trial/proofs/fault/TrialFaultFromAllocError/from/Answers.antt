use Rattle.std.proofs.Common.{rules}
use Rattle.star_trial.proofs.fault.TrialFaultFromAllocError.from.Goals as goal

pub returns : goal.returns
returns c = search rules
