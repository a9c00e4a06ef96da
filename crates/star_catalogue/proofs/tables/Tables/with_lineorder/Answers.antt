use Rattle.std.proofs.Common.{◌∙◌, ap}
use Rattle.star_schema.specs.{declared.table.TableId.TheVariants.Lineorder, Database.Database, Tables.rows_of}
use Rattle.star_reader.specs.Columns.{Table}
use Rattle.star_catalogue.proofs.tables.Tables.with_lineorder.Goals as goal

pub invariant_of-self : goal.invariant_of-self
invariant_of-self c =
    let (most, text, read) = c.requires in
    record {
      date = c.self.invariant.date;
      customer = c.self.invariant.customer;
      supplier = c.self.invariant.supplier;
      part = c.self.invariant.part;
      lineorder = ap (λ (x : Table). x.table) c.into_inner.ensures
          ∙ (c.in_ok-lineorder.ensures most text read).1;
    }

pub returns : goal.returns
returns c = λ most text read.
    let lineorder = c.in_ok-lineorder.ensures most text read in
    let rows = ap (λ (x : Table). x.rows) c.into_inner.ensures ∙ lineorder.2 in (
      lineorder.0,
      rw rows (ap (λ (d : Database). record d {
        lineorder =
            rows_of Lineorder text;
      }) c.self.view_is),
      lineorder.3,
    )
