use Rattle.std.proofs.{Common.arith, lemmas.Grind.common_steps}
use Rattle.star_compile.proofs.declarations.shows.Goals as goal

pub returns : goal.returns
returns c = grind (arith, common_steps)

pub loop-column-preserved : goal.loop-column-preserved
loop-column-preserved c = grind (arith, common_steps)
