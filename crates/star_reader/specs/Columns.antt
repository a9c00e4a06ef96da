-- The values of a table's columns, and the rows that they make.
use Rattle.std.specs.Prelude.{◌≡◌, ◌++◌, ℕ, zero, suc, List, [], ◌∷◌, All, length, map, pos, slice_index_or}
use Rattle.star_schema.specs.{declared.table.TableId.TableId, declared.column.Kind.Kind, Schema.kinds_of, Tables.Value, Tables.Number, Tables.Text}
use Rattle.star_reader.specs.{declared.column.RawColumn.RawColumn, declared.column.RawColumn.TheVariants.Numbers, declared.column.RawColumn.TheVariants.Texts}
use Rattle.star_schema.specs.declared.column.Kind.TheVariants as kind

abbrev pub raw_kind : RawColumn → Kind
raw_kind (Numbers numbers) = kind.Number
raw_kind (Texts texts) = kind.Text

abbrev pub values : RawColumn → List Value
values (Numbers numbers) = map Number numbers
values (Texts texts) = map Text texts

-- the row at a position of columns of one length
abbrev pub row_of_columns : List (List Value) → ℕ → List Value
row_of_columns columns i = map (λ column. slice_index_or column i (Number (pos 0))) columns

-- the first n rows of columns
unfoldable pub first_rows : ℕ → List (List Value) → List (List Value)
first_rows zero columns = []
first_rows (suc n) columns = first_rows n columns ++ row_of_columns columns n ∷ []

-- a table as it was read
pub record Table : Type 0 where
  pub table : TableId
  pub rows : List (List Value)

-- these columns are those of a table that has `rows` rows
pub record AreColumnsOf (table : TableId) (rows : ℕ) (columns : List RawColumn) : Type 0 where
  pub kinds : map raw_kind columns ≡ kinds_of table
  pub full : All (λ column. length (values column) ≡ rows) columns
