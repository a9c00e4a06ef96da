use Rattle.star_compile_laws.proofs.QueryAnswers.{answers_the_query}
use Rattle.star_compile_laws.proofs.answers.compiled_programs_answer_their_queries.Goals as goal

pub returns : goal.returns
returns c = answers_the_query
