use Rattle.star_program.proofs.Text.{Sayable.only_spellable, Spelled.written}
use Rattle.star_program.proofs.spelling.law.spelled_programs_are_written_back.Goals as goal

pub returns-clause-written : goal.returns-clause-written
returns-clause-written c = written

pub returns-clause-only : goal.returns-clause-only
returns-clause-only c = only_spellable

pub returns-clause-back : goal.returns-clause-back
returns-clause-back c = λ text p spells. written p (only_spellable text p spells)
