use Rattle.std.proofs.Common.{arith}
use Rattle.star_plan.{specs.Faults.missing_fault, specs.Private.Found.pairs_view, proofs.Viewed.answer_found}
use Rattle.star_query.specs.Views.{name_view}
use Rattle.star_plan.proofs.joins.check_dimensions.Goals as goal

pub returns-in_err-check_dimension : goal.returns-in_err-check_dimension
returns-in_err-check_dimension c =
    answer_found name_view (missing_fault (pairs_view c.args.pairs.now)) c.args.tables.now
    c.loop-name.name-index _ _ c.from_residual.result c.from_residual.ensures.1 (omega arith)
    c.loop-name.invariant c.name-item.is c.in_err-check_dimension.ensures
