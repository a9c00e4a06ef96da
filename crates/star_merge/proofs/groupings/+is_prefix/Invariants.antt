use Rattle.std.proofs.Common.{length}
use Rattle.star_merge.proofs.groupings.+is_prefix.Given as goal

abbrev pub decreases-is_prefix : goal.decreases-is_prefix
decreases-is_prefix l = length l.keys.now
