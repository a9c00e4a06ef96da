use Rattle.std.proofs.Common.{length}
use Rattle.star_verify.proofs.contributions.+contribute.Given as goal

abbrev pub decreases-contribute : goal.decreases-contribute
decreases-contribute l = length l.aggregates.now
