use Rattle.std.proofs.Common.{rules}
use Rattle.star_engine.proofs.partials.plain_program.Goals as goal

pub returns-in_err-plan : goal.returns-in_err-plan
returns-in_err-plan c = search rules
