use Rattle.std.proofs.{Common.arith, lemmas.Grind.common_steps}
use Rattle.star_merge.proofs.Steps.{nothing_is}
use Rattle.star_merge.proofs.totals.totals_over_none.Goals as goal

pub returns : goal.returns
returns c = grind (arith, common_steps, nothing_is c.args.aggregates.now)
