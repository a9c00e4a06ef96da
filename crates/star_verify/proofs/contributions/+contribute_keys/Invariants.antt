use Rattle.std.proofs.Common.{length}
use Rattle.star_verify.proofs.contributions.+contribute_keys.Given as goal

abbrev pub decreases-contribute_keys : goal.decreases-contribute_keys
decreases-contribute_keys l = length l.keys.now
