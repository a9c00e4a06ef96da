-- What a program can see of some rows, column by column.
use Rattle.std.specs.{Prelude.{◌≡◌, ◌↔◌, ◌<◌, ℕ, ℤ, List, true, false, Some, length, nat_lt, slice_get}, Ordering.{is_le, is_lt}}
use Rattle.star_schema.specs.{declared.column.ColumnId.ColumnId, declared.table.Key.TheVariants.One, declared.table.TableId.TableId, Database.Database, Database.rows_in, Dictionary.text_cmp, Schema.key_of, Schema.references, Schema.table_of, Columns.column_numbers, Columns.column_texts}
use Rattle.star_program.specs.World.{World, IsRowNumberOf, is_text}

-- a row has this number, or this text, in a column
abbrev pub HasNumber : Database → ColumnId → ℕ → ℤ → Type 0
HasNumber database c row n = slice_get (column_numbers database c) row ≡ Some n

abbrev pub HasText : Database → ColumnId → ℕ → List ℕ → Type 0
HasText database c row text = slice_get (column_texts database c) row ≡ Some text

-- a code is that of a text of a column: the number of the column's smaller texts. It compares with
-- the counts for any text, of the column or not, as the two texts compare, and it leads back to the
-- text
pub record IsCodeOf (w : World) (c : ColumnId) (text : List ℕ) (code : ℕ) : Type 0 where
  pub index : code ≡ w.low c text
  pub low : (bound : List ℕ) → nat_lt code (w.low c bound) ≡ is_lt (text_cmp text bound)
  pub high : (bound : List ℕ) → nat_lt code (w.high c bound) ≡ is_le (text_cmp text bound)
  pub shown : w.text c code ≡ text

-- a world of these rows has their numbers, the codes of their texts, for a key the one row that has
-- it, and a row for each foreign key
pub record IsWorldOf (database : Database) (w : World) : Type 0 where
  pub size : (t : TableId) → w.size t ≡ length (rows_in database t)
  pub number : (c : ColumnId) (row : ℕ) (n : ℤ) → is_text c ≡ false → HasNumber database c row n
      → w.number c row ≡ n
  pub code : (c : ColumnId) (row : ℕ) (text : List ℕ) → is_text c ≡ true
      → HasText database c row text → IsCodeOf w c text (w.code c row)
  pub find : (key : ColumnId) (n : ℤ) (row : ℕ) → key_of (table_of key) ≡ One key
      → (w.find (table_of key) n ≡ Some row) ↔ HasNumber database key row n
  pub found : (c : ColumnId) (t : TableId) (row : ℕ) → references c ≡ Some t
      → row < w.size (table_of c) → IsRowNumberOf w t (w.find t (w.number c row))
