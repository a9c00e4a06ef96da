use Rattle.star_statements.proofs.QuestionLemmas.{begins_as, begins_short}
use Rattle.star_statements.proofs.questions.after_word.Goals as goal
use Rattle.std.proofs.Common.{arith}

pub returns-in_default-clause-other : goal.returns-in_default-clause-other
returns-in_default-clause-other c = begins_short _ _ c.in_default.ensures.cases

pub returns-then-is_word_apart-clause-found : goal.returns-then-is_word_apart-clause-found
returns-then-is_word_apart-clause-found c = grind (arith, begins_as)

pub returns-else-is_word_apart-clause-other : goal.returns-else-is_word_apart-clause-other
returns-else-is_word_apart-clause-other c = grind (arith, begins_as)
