use Rattle.std.proofs.Common.{length}
use Rattle.star_merger.proofs.facts.+all_facts.Given as goal

abbrev pub decreases-all_facts : goal.decreases-all_facts
decreases-all_facts l = length l.more.now
