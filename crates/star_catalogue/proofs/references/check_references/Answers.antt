use Rattle.std.proofs.{Common.{◌≡◌, ◌<◌, length, ap, arith}, lemmas.Result.err_from_is_err_and}
use Rattle.star_schema.specs.{declared.table.TableId.TheVariants.Lineorder, Database.rows_in}
use Rattle.star_catalogue.proofs.Refers.{absent_end, absent_here, absent_on, absent_start}
use Rattle.star_catalogue.proofs.references.check_references.Goals as goal

pub loop-row-init : goal.loop-row-init
loop-row-init c = absent_start c.args.tables.now

pub returns-in_err-check_row : goal.returns-in_err-check_row
returns-in_err-check_row c =
    let p = err_from_is_err_and c.from_residual.result c.from_residual.ensures.1 in
    let within : c.loop-row.row < length (rows_in c.args.tables.now Lineorder) =
    omega (arith, ap length c.table.ensures.rows) in
    rw (p.1, p.2)
    (absent_here c.args.tables.now c.loop-row.row c.in_err-check_row.field-0.0 within
    c.in_err-check_row.ensures c.loop-row.invariant)

pub loop-row-preserved : goal.loop-row-preserved
loop-row-preserved c =
    let within : c.loop-row.row < length (rows_in c.args.tables.now Lineorder) =
    omega (arith, ap length c.table.ensures.rows) in
    absent_on c.args.tables.now c.loop-row.row within c.in_ok-check_row.ensures c.loop-row.invariant

pub returns : goal.returns
returns c =
    let all : length (rows_in c.args.tables.now Lineorder) ≡ c.loop-row.row =
    omega (arith, ap length c.table.ensures.rows) in
    absent_end c.args.tables.now c.loop-row.row all c.loop-row.invariant
