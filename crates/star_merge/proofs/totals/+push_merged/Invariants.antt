use Rattle.std.proofs.Common.{length}
use Rattle.star_merge.proofs.totals.+push_merged.Given as goal

abbrev pub decreases-push_merged : goal.decreases-push_merged
decreases-push_merged l = length l.aggregates.now
