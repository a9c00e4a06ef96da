use Rattle.std.proofs.Common.{rules}
use Rattle.star_trial.proofs.act.read.Goals as goal

pub returns : goal.returns
returns c = search rules
