-- Each clause is a lemma.
use Rattle.star_safety.proofs.Told.{all_told, last_context}
use Rattle.star_safety.proofs.law.instructions_are_judged_in_their_contexts.Goals as goal

pub returns-clause-told : goal.returns-clause-told
returns-clause-told c = all_told

pub returns-clause-last : goal.returns-clause-last
returns-clause-last c = last_context
