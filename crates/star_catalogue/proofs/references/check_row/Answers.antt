use Rattle.std.proofs.{Common.{◌≡◌, ◌+◌, ◌≤◌, ℕ, List, [], get_or, length, ◌∙◌, arith}, lemmas.Result.err_from_is_err_and}
use Rattle.star_schema.specs.{declared.column.ColumnId.ColumnId, declared.column.ColumnId.TheVariants.DDatekey, declared.table.TableId.TheVariants.Lineorder, Database.rows_in, Loadable.foreign_keys}
use Rattle.star_catalogue.{specs.Load.foreign_key_fault, proofs.Refers.{after_all, listed_at, row_here, row_on}}
use Rattle.star_catalogue.proofs.references.check_row.Goals as goal

pub returns-in_err-check_cell : goal.returns-in_err-check_cell
returns-in_err-check_cell c =
    let p = err_from_is_err_and c.from_residual.result c.from_residual.ensures.1 in
    let columns = c.foreign_key_columns-column-items.result.now in
    let i = c.loop-column.column-index in
    rw (p.1, p.2)
    (row_here c.args.tables.now (c.args.row + 1)
    (get_or (rows_in c.args.tables.now Lineorder) c.args.row []) i
    (get_or columns i DDatekey) c.in_err-check_cell.field-0.0
    (listed_at foreign_keys columns i c.foreign_key_columns-column-items.ensures
    c.loop-column-test.true)
    c.in_err-check_cell.ensures c.loop-column.invariant)

pub loop-column-preserved : goal.loop-column-preserved
loop-column-preserved c =
    let columns = c.foreign_key_columns-column-items.result.now in
    let i = c.loop-column.column-index in
    row_on c.args.tables.now (c.args.row + 1)
    (get_or (rows_in c.args.tables.now Lineorder) c.args.row []) i (get_or columns i DDatekey)
    (listed_at foreign_keys columns i c.foreign_key_columns-column-items.ensures
    c.loop-column-test.true)
    c.in_ok-check_cell.ensures c.loop-column.invariant

pub returns : goal.returns
returns c =
    let row = get_or (rows_in c.args.tables.now Lineorder) c.args.row [] in
    let all : length foreign_keys ≡ c.loop-column.column-index =
    rw c.foreign_key_columns-column-items.ensures at
    (exactly c.foreign_key_columns-column-items.result.now c.loop-column.column-index
    c.loop-column.auto.column-index-end c.loop-column-test.false) in
    c.loop-column.invariant
    ∙ after_all (foreign_key_fault c.args.tables.now (c.args.row + 1) row) foreign_keys
    c.loop-column.column-index all
  where
    exactly : (columns : List ColumnId) (i : ℕ) → i ≤ length columns → length columns ≤ i
        → length columns ≡ i
    exactly columns i up down = omega arith
