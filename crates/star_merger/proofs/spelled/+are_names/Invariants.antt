use Rattle.std.proofs.Common.{length}
use Rattle.star_merger.proofs.spelled.+are_names.Given as goal

abbrev pub decreases-are_names : goal.decreases-are_names
decreases-are_names l = length l.columns.now
