use Rattle.std.proofs.Common.{length}
use Rattle.star_merger.proofs.outcome.+push_reports.Given as goal

abbrev pub decreases-push_reports : goal.decreases-push_reports
decreases-push_reports l = length l.partials.now
