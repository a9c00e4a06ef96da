use Rattle.std.proofs.Common.{arith}
use Rattle.star_plan.{specs.Faults.from_table_fault, proofs.Viewed.beside_found}
use Rattle.star_query.specs.Views.{name_view}
use Rattle.star_plan.proofs.select.check_tables.Goals as goal

pub returns-in_err-check_table : goal.returns-in_err-check_table
returns-in_err-check_table c =
    beside_found name_view from_table_fault c.args.tables.now c.loop-index.index _ _
    c.from_residual.result c.from_residual.ensures.1 (omega arith) c.loop-index.invariant
    c.index-tables-index.is c.in_err-check_table.ensures
