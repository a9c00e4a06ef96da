use Rattle.std.proofs.{Common.arith, lemmas.Grind.common_steps}
use Rattle.star_group.proofs.keyed.merge.row_of_put.Goals as goal

pub loop-index-preserved : goal.loop-index-preserved
loop-index-preserved c = grind (arith, common_steps)
