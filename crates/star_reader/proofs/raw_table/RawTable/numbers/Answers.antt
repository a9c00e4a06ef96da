use Rattle.std.proofs.{Common.sym, Common.◌∙◌, lemmas.Option.slice_get-map}
use Rattle.star_schema.specs.Tables.{Number}
use Rattle.star_reader.{specs.declared.column.RawColumn.TheVariants.Numbers, proofs.ColumnLemmas.{IsColumnAt, column_at, numbers_are, value_there}}
use Rattle.star_schema.specs.declared.column.Kind.TheVariants as kind
use Rattle.star_reader.proofs.raw_table.RawTable.numbers.Goals as goal

column : (c : goal.In-Numbers) → IsColumnAt c.self.inside.rows c.self.inside.columns.items
    c.args.index kind.Number (Numbers c.in-Numbers.numbers)
column c =
    rw c.in-Numbers.is at
    (column_at c.self.invariant (rw (← c.self.view_is) at c.requires) c.index.ensures)

pub returns-clause-numbers : goal.returns-clause-numbers
returns-clause-numbers c = rw (← c.self.view_is) (sym (numbers_are (column c)))

pub returns-clause-values : goal.returns-clause-values
returns-clause-values c = λ row.
    rw (← c.self.view_is)
    (value_there (column c) row ∙ slice_get-map Number c.in-Numbers.numbers row)
