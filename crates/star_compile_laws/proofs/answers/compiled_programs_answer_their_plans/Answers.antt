use Rattle.star_compile_laws.proofs.{Answered.answers_the_plan, SeenRows.sees}
use Rattle.star_compile_laws.proofs.answers.compiled_programs_answer_their_plans.Goals as goal

pub returns : goal.returns
returns c = λ database w p rows world sound.
    answers_the_plan _ w (sees database w rows world) p sound
