use Rattle.star_program.proofs.Text.OneProgram.{one_program}
use Rattle.star_program.proofs.spelling.law.no_text_spells_two_programs.Goals as goal

pub returns : goal.returns
returns c = one_program
