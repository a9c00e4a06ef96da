use Rattle.std.proofs.{Common.{◌≡◌, ◌<◌, Some, arith, ap, get_or, length, slice_get}, lemmas.Option.slice_get-get_or}
use Rattle.star_schema.{specs.declared.column.ColumnId.TheVariants.DDatekey, specs.Schema.columns_of, proofs.Indexes.in_table}
use Rattle.star_schema.proofs.table.column_at.Goals as goal

pub returns-clause-table : goal.returns-clause-table
returns-clause-table c =
    let within : c.args.index < length c.columns.result.now =
    omega (arith, c.requires, ap length c.columns.ensures.columns) in
    let at : slice_get (columns_of c.args.table) c.args.index
    ≡ Some (get_or c.columns.result.now c.args.index DDatekey) =
    rw (← c.columns.ensures.columns)
    (slice_get-get_or c.columns.result.now c.args.index DDatekey within) in
    in_table c.args.table c.args.index _ at
