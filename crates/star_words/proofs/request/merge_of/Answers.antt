use Rattle.std.proofs.{Common.arith, lemmas.Grind.common_steps}
use Rattle.star_words.proofs.request.merge_of.Goals as goal

pub returns-in_default : goal.returns-in_default
returns-in_default c = grind (arith, common_steps)

pub returns-then-is_empty : goal.returns-then-is_empty
returns-then-is_empty c = grind (arith, common_steps)

pub returns : goal.returns
returns c = grind (arith, common_steps)
