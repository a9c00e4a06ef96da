use Rattle.std.proofs.Common.{◌≡◌, ◌+◌, [], get_or, FitsSigned, Some, slice_get, sym, w64, to_z-of_z, refl, rules}
use Rattle.star_schema.{specs.declared.table.TableId.TheVariants.Lineorder, specs.Bounds.numbers_of, specs.Database.rows_in, specs.Loadable.number_at, specs.Schema.{position_of, table_of}, proofs.KeyColumns.{IsNumberOf, foreign_key}}
use Rattle.star_reader.proofs.RowIndexes.{length-numbers_at}
use Rattle.star_catalogue.proofs.{Refers.cell_absent, Refers.cell_known, Refers.number_of_row, references.check_cell.Goals.After-at-number, references.check_cell.Goals.In-Some}
use Rattle.star_catalogue.proofs.references.check_cell.Goals as goal

-- a column that refers to a table is one of numbers of lineorder
key : (c : In-Some) → IsNumberOf Lineorder c.args.column
key c = (foreign_key c.args.column c.in-Some.table (sym c.in-Some.ensures)).0

pub numbers-requires : goal.numbers-requires
numbers-requires c = (key (goal.at.numbers-requires c).In-Some).kind

pub at-number-requires : goal.at-number-requires
at-number-requires c =
    rw (
      c.numbers.ensures,
      length-numbers_at (position_of c.args.column)
          (rows_in c.args.tables.now (table_of c.args.column)),
      (key (goal.at.at-number-requires c).In-Some).table,
    ) c.requires.row

number_is : (c : After-at-number)
    → number_at c.args.column (get_or (rows_in c.args.tables.now Lineorder) c.args.row [])
    ≡ c.at-number.result
number_is c =
    let rows = rows_in c.args.tables.now Lineorder in
    let of_table = (foreign_key c.args.column c.in-Some.table (sym c.in-Some.ensures)).0.table in
    let there : slice_get (numbers_of c.args.column rows) c.args.row ≡ Some c.at-number.result =
    rw (c.numbers.ensures, of_table) at c.at-number.ensures in
    number_of_row c.args.column rows c.args.row c.at-number.result c.requires.row there

pub returns-in-None : goal.returns-in-None
returns-in-None c =
    let fits : FitsSigned w64 c.at-number.result = search rules in
    cell_absent c.args.tables.now (c.args.row + 1)
    (get_or (rows_in c.args.tables.now Lineorder) c.args.row []) c.args.column c.in-Some.table
    c.at-number.result (sym c.in-Some.ensures)
    (number_is (goal.at.returns-in-None c).After-at-number)
    (λ index at. let bad = (rw (c.table.ensures.table, c.table.ensures.rows, to_z-of_z fits) at
    (c.in-None.ensures index).1) at in cc bad)

pub returns-in-Some-find : goal.returns-in-Some-find
returns-in-Some-find c =
    let fits : FitsSigned w64 c.at-number.result = search rules in
    cell_known c.args.tables.now (c.args.row + 1)
    (get_or (rows_in c.args.tables.now Lineorder) c.args.row []) c.args.column c.in-Some.table
    c.at-number.result c.in-Some-find.field-0 (sym c.in-Some.ensures)
    (number_is (goal.at.returns-in-Some-find c).After-at-number)
    (rw (c.table.ensures.table, c.table.ensures.rows, to_z-of_z fits) at
    ((c.in-Some-find.ensures c.in-Some-find.field-0).0 refl))
