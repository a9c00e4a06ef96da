use Rattle.std.proofs.{Common.{arith, sym}, lemmas.Bool.{eqb-true, eqb-false}}
use Rattle.star_statements.proofs.QuestionLemmas.{explained, nothing, queried, quoted, too_long}
use Rattle.star_statements.proofs.questions.question_of.Goals as goal

pub returns-then-is_empty : goal.returns-then-is_empty
returns-then-is_empty c = grind (arith, nothing, eqb-true)

pub returns-then-text-gt-MOST_BYTES : goal.returns-then-text-gt-MOST_BYTES
returns-then-text-gt-MOST_BYTES c = sym (too_long _ (omega arith))

pub returns-in-Some : goal.returns-in-Some
returns-in-Some c = grind (arith, eqb-false, explained)

pub returns-in-Some-after_word : goal.returns-in-Some-after_word
returns-in-Some-after_word c = grind (arith, eqb-false, quoted)

pub returns : goal.returns
returns c = grind (arith, eqb-false, queried)
