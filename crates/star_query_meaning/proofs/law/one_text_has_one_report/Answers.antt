use Rattle.star_query_meaning.proofs.OneAnswer.{one_report}
use Rattle.star_query_meaning.proofs.law.one_text_has_one_report.Goals as goal

pub returns : goal.returns
returns c = one_report
