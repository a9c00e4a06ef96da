use Rattle.star_report.proofs.Lines.{report_same}
use Rattle.star_report.proofs.law.one_text_has_one_meaning.Goals as goal

pub returns : goal.returns
returns c = report_same
