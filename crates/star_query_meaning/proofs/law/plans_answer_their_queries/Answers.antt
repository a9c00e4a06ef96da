-- Both directions are lemmas.
use Rattle.star_query_meaning.proofs.OwnWords.{own_answer, plan_answer}
use Rattle.star_query_meaning.proofs.law.plans_answer_their_queries.Goals as goal

pub returns : goal.returns
returns c = λ tables query p names rows named resolved. (
  plan_answer tables query p named resolved names rows,
  own_answer tables query p named resolved names rows,
)
