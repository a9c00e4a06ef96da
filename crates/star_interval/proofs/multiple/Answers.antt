-- Both factors widen to themselves, and their product fits.
use Rattle.std.proofs.{Common.◌≡◌, Common.◌≤◌, Common.◌^◌, Common.◌-◌, Common.arith, lemmas.Grind.common_steps}
use Rattle.star_interval.proofs.multiple.Goals as goal

pub returns : goal.returns
returns c = grind (arith, common_steps)

pub overflow_mul-result : goal.overflow_mul-result
overflow_mul-result c = grind (arith, common_steps)
