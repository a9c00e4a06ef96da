use Rattle.std.proofs.Common.{rules}
use Rattle.star_trial.proofs.act.look_up.Goals as goal

pub returns-in-None-clause-does : goal.returns-in-None-clause-does
returns-in-None-clause-does c = search rules
