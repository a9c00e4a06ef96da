use Rattle.star_program.proofs.Text.Faultless.{faultless}
use Rattle.star_program.proofs.spelling.law.texts_without_a_fault_spell_programs.Goals as goal

pub returns : goal.returns
returns c = faultless
