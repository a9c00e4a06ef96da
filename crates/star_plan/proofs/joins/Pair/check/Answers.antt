use Rattle.std.proofs.Common.{rules}
use Rattle.star_plan.proofs.joins.Pair.check.Goals as goal

pub returns-in-Some : goal.returns-in-Some
returns-in-Some c = search rules

pub returns-in-Some-2 : goal.returns-in-Some-2
returns-in-Some-2 c = search rules
