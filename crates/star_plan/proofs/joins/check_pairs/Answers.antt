use Rattle.std.proofs.Common.{arith}
use Rattle.star_plan.{specs.Faults.pair_fault, specs.Private.Found.pair_view, proofs.Viewed.beside_of_copy}
use Rattle.star_plan.proofs.joins.check_pairs.Goals as goal

pub returns-in_err-check : goal.returns-in_err-check
returns-in_err-check c =
    beside_of_copy pair_view pair_fault c.args.pairs.now c.loop-index.index _ _
    c.from_residual.result c.from_residual.ensures.1 (omega arith) c.loop-index.invariant
    c.in_err-check.ensures
