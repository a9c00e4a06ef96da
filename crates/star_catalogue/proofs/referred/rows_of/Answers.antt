use Rattle.std.proofs.{Common.◌∙◌, Common.sym, lemmas.Result.IfOk-weaker}
use Rattle.star_schema.proofs.KeyColumns.{foreign_key}
use Rattle.star_catalogue.proofs.ReferredRows.{of_table}
use Rattle.star_catalogue.proofs.referred.rows_of.Goals as goal

pub numbers-requires : goal.numbers-requires
numbers-requires c =
    (foreign_key c.args.column c.in-Some.table (sym c.references.ensures ∙ c.in-Some.is)).0.kind

pub returns-in-Some : goal.returns-in-Some
returns-in-Some c =
    IfOk-weaker c.join_index.result _ _
    (of_table c.args.tables.now c.args.column c.in-Some.table
    (sym c.references.ensures ∙ c.in-Some.is))
    (rw (c.table.ensures.table, c.table.ensures.rows, c.numbers.ensures) at c.join_index.ensures)
