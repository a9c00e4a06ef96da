-- The five tables in memory.
use Rattle.std.specs.Prelude.{◌≡◌, ℕ}
use Rattle.star_schema.specs.declared.table.TableId.TheVariants as id
use Rattle.star_schema.specs.{Database.AreTables, Database.Database, Database.TableTexts, Loadable.HasDistinctKeys, Loadable.database_of, Tables.rows_of, declared.table.TableId.TableId}
use Rattle.star_catalogue.specs.declared.tables.Tables.TheInside.{Inside}

abbrev pub database_view : Inside → Database
database_view kept =
    record {
      date = kept.date.rows;
      customer = kept.customer.rows;
      supplier = kept.supplier.rows;
      part = kept.part.rows;
      lineorder = kept.lineorder.rows;
    }

-- each is its own table
pub record AreInPlace (kept : Inside) : Type 0 where
  pub date : kept.date.table ≡ id.Date
  pub customer : kept.customer.table ≡ id.Customer
  pub supplier : kept.supplier.table ≡ id.Supplier
  pub part : kept.part.table ≡ id.Part
  pub lineorder : kept.lineorder.table ≡ id.Lineorder

-- the rows of five texts, each of which is a table with distinct keys
abbrev pub AreRowsOfTables : ℕ → TableTexts → Database → Type 0
AreRowsOfTables most texts database = AreTables most texts × (database ≡ database_of texts)
    × ((t : TableId) → HasDistinctKeys t (rows_of t (texts t)))
