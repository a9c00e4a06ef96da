use Rattle.star_query.proofs.MeantTrees.{meant_spelled_so, meant_within}
use Rattle.star_query.proofs.law.meant_trees_are_within_limits.Goals as goal

pub returns-clause-limits : goal.returns-clause-limits
returns-clause-limits c = meant_within

pub returns-clause-spelled : goal.returns-clause-spelled
returns-clause-spelled c = meant_spelled_so
