use Rattle.star_compile_laws.proofs.QueryAnswers.{reports_the_query}
use Rattle.star_compile_laws.proofs.answers.compiled_programs_report_their_queries.Goals as goal

pub returns : goal.returns
returns c = reports_the_query c.sound_rows_have_a_world.ensures
