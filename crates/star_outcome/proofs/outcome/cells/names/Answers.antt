use Rattle.std.proofs.{Common.arith, lemmas.Grind.common_steps}
use Rattle.star_outcome.proofs.outcome.cells.names.Goals as goal

pub loop-show-preserved : goal.loop-show-preserved
loop-show-preserved c = grind (arith, common_steps)
