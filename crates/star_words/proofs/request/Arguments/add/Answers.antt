use Rattle.std.proofs.{Common.arith, lemmas.Grind.common_steps}
use Rattle.star_words.proofs.request.Arguments.add.Goals as goal

pub returns-in_ok-push : goal.returns-in_ok-push
returns-in_ok-push c = grind (arith, common_steps)

pub returns-then-eq : goal.returns-then-eq
returns-then-eq c = grind (arith, common_steps)

pub returns-in_ok-push-2 : goal.returns-in_ok-push-2
returns-in_ok-push-2 c = grind (arith, common_steps)

pub returns-in_ok-push-3 : goal.returns-in_ok-push-3
returns-in_ok-push-3 c = grind (arith, common_steps)
