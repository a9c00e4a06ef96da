use Rattle.std.proofs.Common.{arith}
use Rattle.star_plan.{specs.Faults.group_fault, proofs.Viewed.beside_found}
use Rattle.star_query.specs.Views.{name_view}
use Rattle.star_plan.proofs.select.check_groups.Goals as goal

pub returns-in_err-check_group : goal.returns-in_err-check_group
returns-in_err-check_group c =
    beside_found name_view group_fault c.args.groups.now c.loop-index.index _ _
    c.from_residual.result c.from_residual.ensures.1 (omega arith) c.loop-index.invariant
    c.index-groups-index.is c.in_err-check_group.ensures
