use Rattle.std.proofs.Common.{rules}
use Rattle.star_statements.proofs.QuestionLemmas.{told_as}
use Rattle.star_statements.proofs.questions.is_word_apart.Goals as goal

pub returns-then-eq_ignore_ascii_case : goal.returns-then-eq_ignore_ascii_case
returns-then-eq_ignore_ascii_case c = search (rules, told_as)

pub returns-else-eq_ignore_ascii_case : goal.returns-else-eq_ignore_ascii_case
returns-else-eq_ignore_ascii_case c = search (rules, told_as)
