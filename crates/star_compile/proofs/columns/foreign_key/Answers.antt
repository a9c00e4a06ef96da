use Rattle.std.proofs.{Common.arith, lemmas.Grind.common_steps}
use Rattle.star_compile.proofs.columns.foreign_key.Goals as goal

pub returns-then-is_table : goal.returns-then-is_table
returns-then-is_table c = grind (arith, common_steps)
