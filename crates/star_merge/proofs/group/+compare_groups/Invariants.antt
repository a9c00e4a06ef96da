use Rattle.std.proofs.Common.{length}
use Rattle.star_merge.proofs.group.+compare_groups.Given as goal

abbrev pub decreases-compare_groups : goal.decreases-compare_groups
decreases-compare_groups l = length l.sorts.now
