use Rattle.star_statements.proofs.StatementLemmas.{concat-statements}
use Rattle.star_statements.proofs.law.statements_are_the_text.Goals as goal

pub returns : goal.returns
returns c = concat-statements
