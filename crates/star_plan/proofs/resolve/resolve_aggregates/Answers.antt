use Rattle.std.proofs.{Common.arith, lemmas.Grind.common_steps}
use Rattle.star_plan.proofs.resolve.resolve_aggregates.Goals as goal

pub loop-item-preserved : goal.loop-item-preserved
loop-item-preserved c = grind (arith, common_steps)

pub returns-in_err-aggregate-clause-measures : goal.returns-in_err-aggregate-clause-measures
returns-in_err-aggregate-clause-measures c = grind (arith, common_steps)

pub resolve_aggregate-requires : goal.resolve_aggregate-requires
resolve_aggregate-requires c = grind (arith, common_steps)
