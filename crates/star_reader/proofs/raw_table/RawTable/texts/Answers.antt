use Rattle.std.proofs.{Common.sym, Common.◌∙◌, lemmas.Option.slice_get-map}
use Rattle.star_schema.specs.Tables.{Text}
use Rattle.star_reader.{specs.declared.column.RawColumn.TheVariants.Texts, proofs.ColumnLemmas.{IsColumnAt, column_at, texts_are, value_there}}
use Rattle.star_schema.specs.declared.column.Kind.TheVariants as kind
use Rattle.star_reader.proofs.raw_table.RawTable.texts.Goals as goal

column : (c : goal.In-Texts) → IsColumnAt c.self.inside.rows c.self.inside.columns.items
    c.args.index kind.Text (Texts c.in-Texts.texts)
column c =
    rw c.in-Texts.is at
    (column_at c.self.invariant (rw (← c.self.view_is) at c.requires) c.index.ensures)

pub returns-clause-texts : goal.returns-clause-texts
returns-clause-texts c = rw (← c.self.view_is) (sym (texts_are (column c)))

pub returns-clause-values : goal.returns-clause-values
returns-clause-values c = λ row.
    rw (← c.self.view_is)
    (value_there (column c) row ∙ slice_get-map Text c.in-Texts.texts row)
