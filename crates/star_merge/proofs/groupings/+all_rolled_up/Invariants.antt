use Rattle.std.proofs.Common.{length}
use Rattle.star_merge.proofs.groupings.+all_rolled_up.Given as goal

abbrev pub decreases-all_rolled_up : goal.decreases-all_rolled_up
decreases-all_rolled_up l = length l.keys.now
