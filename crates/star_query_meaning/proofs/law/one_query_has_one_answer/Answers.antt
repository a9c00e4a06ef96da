use Rattle.star_query_meaning.proofs.OneAnswer.{one_answer}
use Rattle.star_query_meaning.proofs.law.one_query_has_one_answer.Goals as goal

pub returns : goal.returns
returns c = one_answer
