use Rattle.std.proofs.Common.{length}
use Rattle.star_merge.proofs.groupings.+push_groupings.Given as goal

abbrev pub decreases-push_groupings : goal.decreases-push_groupings
decreases-push_groupings l = length l.keys.now
