use Rattle.star_engine.proofs.OneReport.{report_is_one}
use Rattle.star_engine.proofs.law.one_report.Goals as goal

pub returns : goal.returns
returns c = report_is_one
