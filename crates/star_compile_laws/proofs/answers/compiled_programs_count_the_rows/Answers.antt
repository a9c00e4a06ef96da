use Rattle.star_compile_laws.proofs.QueryAnswers.{counts_the_rows_of_the_query}
use Rattle.star_compile_laws.proofs.answers.compiled_programs_count_the_rows.Goals as goal

pub returns : goal.returns
returns c = counts_the_rows_of_the_query
