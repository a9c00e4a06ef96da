use Rattle.star_plan.{specs.Faults.pair_fault, specs.Private.Found.pair_view, proofs.Viewed.BesideSoFar}
use Rattle.star_plan.proofs.joins.check_pairs.Given as goal

abbrev pub invariant-loop-index : goal.invariant-loop-index
invariant-loop-index l = BesideSoFar pair_view pair_fault l.pairs l.index
