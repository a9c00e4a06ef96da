use Rattle.star_group.proofs.Common.{rules}
use Rattle.star_group.proofs.deferred.coarser.merge_coarser.Goals as goal

pub merge-requires-clause-stays : goal.merge-requires-clause-stays
merge-requires-clause-stays c = search rules

pub returns-then-not-is_grouping-clause-ok : goal.returns-then-not-is_grouping-clause-ok
returns-then-not-is_grouping-clause-ok c = search rules

pub returns-clause-ok : goal.returns-clause-ok
returns-clause-ok c = search rules
