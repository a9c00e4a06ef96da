-- The rows that foreign keys refer to.
use Rattle.std.specs.Prelude.{◌≡◌, ◌∷◌, [], ℕ, ℤ, List, Some, length, map, slice_get, slice_index_or}
use Rattle.star_schema.specs.{declared.column.ColumnId.ColumnId, declared.column.TheConstants.COLUMNS, declared.table.TableId.TableId, Bounds.numbers_of, Database.Database, Database.rows_in, Loadable.keys_of, Schema.index_of, Schema.references, Schema.table_of}
use Rattle.star_catalogue.specs.declared.referred.Referred.{Referred}

abbrev pub rows_view : Referred → ColumnId → List ℕ
rows_view kept c = slice_index_or kept.rows.items (index_of c) []

-- these are the rows whose keys are some numbers
pub record AreFound (keys : List (List ℤ)) (numbers : List ℤ) (rows : List ℕ) : Type 0 where
  pub found : map (λ row. slice_get keys row) rows ≡ map (λ number. Some (number ∷ [])) numbers

-- if a column is a foreign key, these are the rows that its numbers refer to
abbrev pub AreRowsReferredTo : Database → ColumnId → List ℕ → Type 0
AreRowsReferredTo database c rows =
    (t : TableId) → references c ≡ Some t
    → AreFound (keys_of t (rows_in database t)) (numbers_of c (rows_in database (table_of c))) rows

-- these are the rows of the first columns, in order
pub record AreOfFirst (database : Database) (n : ℕ) (lists : List (List ℕ)) : Type 0 where
  pub all : length lists ≡ n
  pub each : (i : ℕ) (c : ColumnId) (rows : List ℕ) → slice_get COLUMNS i ≡ Some c
      → slice_get lists i ≡ Some rows → AreRowsReferredTo database c rows

-- the rows of each column
abbrev pub AreReferred : Database → Referred → Type 0
AreReferred database kept = AreOfFirst database (length COLUMNS) kept.rows.items
