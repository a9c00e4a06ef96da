use Rattle.std.proofs.Common.{length}
use Rattle.star_merger.proofs.outcome.+counts_of.Given as goal

abbrev pub decreases-counts_of : goal.decreases-counts_of
decreases-counts_of l = length l.partials.now
