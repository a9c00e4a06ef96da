use Rattle.star_compile_laws.proofs.Programs.{is_short, is_within_limits, shows_what_is_there, is_spellable}
use Rattle.star_compile_laws.proofs.law.compiled_plans_are_programs.Goals as goal

pub returns-clause-limits : goal.returns-clause-limits
returns-clause-limits c = λ p l. is_within_limits p l

pub returns-clause-size : goal.returns-clause-size
returns-clause-size c = λ p l. is_short p l

pub returns-clause-report : goal.returns-clause-report
returns-clause-report c = λ p s. shows_what_is_there p s

pub returns-clause-spellable : goal.returns-clause-spellable
returns-clause-spellable c = λ p l s q. is_spellable p l s q
