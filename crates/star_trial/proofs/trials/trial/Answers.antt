use Rattle.std.proofs.Common.{rules}
use Rattle.star_trial.proofs.trials.trial.Goals as goal

pub returns-in-Some : goal.returns-in-Some
returns-in-Some c = search rules
