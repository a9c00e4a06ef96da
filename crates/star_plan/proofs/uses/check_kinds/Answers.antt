use Rattle.std.proofs.Common.{arith}
use Rattle.star_plan.{specs.Faults.use_kind_fault, specs.Private.Found.use_view, proofs.Viewed.answer_of_copy}
use Rattle.star_plan.proofs.uses.check_kinds.Goals as goal

pub returns-in_err-kind_fault : goal.returns-in_err-kind_fault
returns-in_err-kind_fault c =
    answer_of_copy use_view use_kind_fault c.args.uses.now c.loop-named.named-index _ _
    c.from_residual.result c.from_residual.ensures.1 (omega arith) c.loop-named.invariant
    c.in_err-kind_fault.ensures
