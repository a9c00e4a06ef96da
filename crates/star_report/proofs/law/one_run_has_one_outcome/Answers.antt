use Rattle.star_report.proofs.OneOrder.{one_outcome}
use Rattle.star_report.proofs.law.one_run_has_one_outcome.Goals as goal

pub returns : goal.returns
returns c = one_outcome
