-- Five tables that are read in pieces.
use Rattle.std.specs.Prelude.{◌≡◌, ℕ, List}
use Rattle.star_schema.specs.{declared.table.TableId.TheVariants.{Date, Customer, Supplier, Part, Lineorder}, Database.{Database, TableTexts}, Loadable.{IsLoadable, database_of}}
use Rattle.star_reader.specs.Partway.{HasReadText, Reading}
use Rattle.star_catalogue.specs.declared.read_tables.ReadTables.{ReadTables}

-- the readers of five tables of at most `most` rows each have been given these texts
pub record AreRead (read : ReadTables) (most : ℕ) (texts : TableTexts) : Type 0 where
  pub date : HasReadText read.date.value Date most (texts Date)
  pub customer : HasReadText read.customer.value Customer most (texts Customer)
  pub supplier : HasReadText read.supplier.value Supplier most (texts Supplier)
  pub part : HasReadText read.part.value Part most (texts Part)
  pub lineorder : HasReadText read.lineorder.value Lineorder most (texts Lineorder)

-- they have been given some texts
abbrev pub AreReadSome : ReadTables → Type 0
AreReadSome read = (most : ℕ) × (texts : TableTexts) × AreRead read most texts

-- the texts of five tables, with this of lineorder
abbrev pub with_lineorder_text : TableTexts → List (List ℕ) → TableTexts
with_lineorder_text texts text Lineorder = text
with_lineorder_text texts text t = texts t

-- a reader has been given a text of lineorder, next to the rows of texts that can be loaded
pub record IsReadNextTo (database : Database) (reader : Reading) (most : ℕ) (texts : TableTexts)
    (text : List (List ℕ)) : Type 0 where
  pub loadable : IsLoadable most texts
  pub rows : database ≡ database_of texts
  pub read : HasReadText reader Lineorder most text
