use Rattle.std.proofs.Common.{arith, map}
use Rattle.star_query.specs.Views.{name_view}
use Rattle.star_plan.{specs.Faults.scope_fault, specs.Private.Found.use_view, proofs.Viewed.answer_of_copy}
use Rattle.star_plan.proofs.uses.check_scope.Goals as goal

pub returns-in_err-scope_fault : goal.returns-in_err-scope_fault
returns-in_err-scope_fault c =
    answer_of_copy use_view (scope_fault (map name_view c.args.tables.now)) c.args.uses.now
    c.loop-named.named-index _ _ c.from_residual.result c.from_residual.ensures.1 (omega arith)
    c.loop-named.invariant c.in_err-scope_fault.ensures
