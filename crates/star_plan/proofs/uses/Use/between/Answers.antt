use Rattle.std.proofs.Common.{rules}
use Rattle.star_plan.proofs.uses.Use.between.Goals as goal

pub returns : goal.returns
returns c = search rules
