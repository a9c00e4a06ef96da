use Rattle.std.proofs.{Common.arith, lemmas.Grind.common_steps}
use Rattle.star_compile.proofs.emitter.Emitter.conjuncts.Goals as goal

pub loop-condition-preserved : goal.loop-condition-preserved
loop-condition-preserved c = grind (arith, common_steps)
