use Rattle.std.proofs.Common.{rules}
use Rattle.star_verify.proofs.steps.check_target.Goals as goal

pub returns-clause-reason : goal.returns-clause-reason
returns-clause-reason c = search rules
