use Rattle.std.proofs.{Common.arith, lemmas.Grind.common_steps}
use Rattle.star_common.proofs.quoting.push_all_doubled.Goals as goal

pub loop-byte-preserved : goal.loop-byte-preserved
loop-byte-preserved c = grind (arith, common_steps)
