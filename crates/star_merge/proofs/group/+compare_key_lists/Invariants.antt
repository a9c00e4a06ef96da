use Rattle.std.proofs.Common.{length}
use Rattle.star_merge.proofs.group.+compare_key_lists.Given as goal

abbrev pub decreases-compare_key_lists : goal.decreases-compare_key_lists
decreases-compare_key_lists l = length l.a.now
