use Rattle.std.proofs.Common.{length}
use Rattle.star_merge.proofs.groupings.+all_shown.Given as goal

abbrev pub decreases-all_shown : goal.decreases-all_shown
decreases-all_shown l = length l.keys.now
