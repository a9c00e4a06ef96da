use Rattle.star_statements.{specs.Blanks.without_blanks, proofs.BlankLemmas.{no_blank, past_blank}}
use Rattle.star_statements.proofs.blanks.without_blanks.Goals as goal
use Rattle.std.proofs.{Common.arith, lemmas.Grind.common_steps}

pub blanks-preserved : goal.blanks-preserved
blanks-preserved c = grind (arith, past_blank)

pub returns-then-not-is_blank : goal.returns-then-not-is_blank
returns-then-not-is_blank c = grind (arith, no_blank)

pub returns-in_default : goal.returns-in_default
unfolding without_blanks
returns-in_default c = grind (arith, common_steps)
