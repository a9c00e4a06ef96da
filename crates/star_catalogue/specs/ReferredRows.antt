-- The rows that the numbers of a column refer to.
use Rattle.std.specs.Prelude.{◌≡◌, ◌∷◌, [], ℕ, ℤ, List, Some, length, slice_get, slice_index_or}
use Rattle.star_schema.specs.{declared.column.ColumnId.ColumnId, declared.table.TableId.TableId, Columns.column_numbers, Database.Database, Database.rows_in, Loadable.keys_of, Schema.references, Schema.table_of}

-- for each row of a column that refers to a table, the row there whose key is the column's number
pub record AreReferredRows (database : Database) (c : ColumnId) (rows : List ℕ) : Type 0 where
  pub all : length rows ≡ length (rows_in database (table_of c))
  pub each : (t : TableId) (row : ℕ) (number : ℤ) → references c ≡ Some t
      → slice_get (column_numbers database c) row ≡ Some number
      → slice_get (keys_of t (rows_in database t)) (slice_index_or rows row 0) ≡ Some (number ∷ [])
