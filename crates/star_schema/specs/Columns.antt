-- The values of a column over the rows of five tables, and the bounds of numeric columns.
use Rattle.std.specs.Prelude.{◌≡◌, ℕ, ℤ, List}
use Rattle.star_interval.specs.Range.{FitsI64, Range}
use Rattle.star_schema.specs.{declared.column.ColumnId.ColumnId, declared.column.Kind.TheVariants.Number, declared.table.TableId.TableId, Bounds.{greatest, least, numbers_of}, Database.{Database, rows_in}, Dictionary.dictionary_of, Schema.{kind_of, table_of}, Tables.Value, Texts.texts_of}

-- the numbers of a numeric column
abbrev pub column_numbers : Database → ColumnId → List ℤ
column_numbers database c = numbers_of c (rows_in database (table_of c))

-- the texts of a text column
abbrev pub column_texts : Database → ColumnId → List (List ℕ)
column_texts database c = texts_of c (rows_in database (table_of c))

-- the distinct texts of a column, in byte order; a code is an index among them
abbrev pub column_dictionary : Database → ColumnId → List (List ℕ)
column_dictionary database c = dictionary_of (column_texts database c)

-- the bounds of a numeric column over given rows: its least and its greatest number, 0 and 0
-- without rows
abbrev pub bounds_in : (TableId → List (List Value)) → ColumnId → Range
bounds_in rows c =
    let numbers = numbers_of c (rows (table_of c)) in
    record { low = least numbers; high = greatest numbers }

-- the bounds of each numeric column have 64 bits
abbrev pub AreBoundsI64 : (ColumnId → Range) → Type 0
AreBoundsI64 bounds = (c : ColumnId) → kind_of c ≡ Number → FitsI64 (bounds c)
