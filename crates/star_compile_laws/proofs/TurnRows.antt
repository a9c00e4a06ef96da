-- Rows of tables as a world has them, and the rows that a turn of the scan is over.
use Rattle.std.specs.Prelude.{◌≡◌, ℕ, zero, suc, ◌+◌, ◌<◌, ℤ, true, false, List, [], ◌∷◌, length, slice_index_or, Some, if◌then◌else◌, unwrap_or}
use Rattle.star_schema.specs.{declared.table.TableId.TableId, declared.table.TableId.TheVariants.Lineorder, declared.column.ColumnId.ColumnId, Schema.{is_table, key_of, references, table_of}, Tables.{Value, Number, Text}}
use Rattle.star_plan.specs.{declared.tree.Join.Join, Joins.is_lone_key, Sound.joins_table, Sound.in_scope, Meaning.Row, Meaning.Tables, Meaning.Joined, Meaning.value_in, Meaning.joined_value}
use Rattle.star_program.specs.World.{World, IsRowNumberOf, is_text}
use Rattle.star_world.specs.RowsSeen.{IsCodeOf}
use Rattle.star_compile_laws.specs.Compiled.{foreign_of}

-- the world's number or code in a row shows this value
abbrev pub Shows : World → ColumnId → ℕ → Value → Type 0
Shows w c n (Number z) = (is_text c ≡ false) × (w.number c n ≡ z)
Shows w c n (Text v) = (is_text c ≡ true) × IsCodeOf w c v (w.code c n)

abbrev pub row_at : List Row → ℕ → Row
row_at rows n = slice_index_or rows n []

-- the world shows each value of these tables; a key that it finds is that of the row, and of no
-- other; and it finds each foreign key
pub record Sees (ts : Tables) (w : World) : Type 0 where
  pub size : (t : TableId) → w.size t ≡ length (ts t)
  pub shows : (c : ColumnId) (n : ℕ) → n < length (ts (table_of c))
      → Shows w c n (value_in c (row_at (ts (table_of c)) n))
  pub finds : (k : ColumnId) (z : ℤ) (n : ℕ) → is_lone_key k (key_of (table_of k)) ≡ true
      → w.find (table_of k) z ≡ Some n
      → (n < length (ts (table_of k))) × (value_in k (row_at (ts (table_of k)) n) ≡ Number z)
  pub keys : (k : ColumnId) (m n : ℕ) → is_lone_key k (key_of (table_of k)) ≡ true
      → m < length (ts (table_of k)) → n < length (ts (table_of k))
      → value_in k (row_at (ts (table_of k)) m) ≡ value_in k (row_at (ts (table_of k)) n) → m ≡ n
  pub found : (c : ColumnId) (t : TableId) (n : ℕ) → references c ≡ Some t
      → n < length (ts (table_of c)) → IsRowNumberOf w t (w.find t (w.number c n))

-- the rows of the tables at these positions make the joined row
pub record IsTurn (w : World) (js : List Join) (at : TableId → ℕ) (row : Joined) : Type 0 where
  pub shows : (c : ColumnId) → in_scope js (table_of c) ≡ true
      → Shows w c (at (table_of c)) (joined_value c row)
  pub keys : (t : TableId) → joins_table js t ≡ true → (table_of (foreign_of js t) ≡ Lineorder)
      × (is_text (foreign_of js t) ≡ false)
  pub found : (t : TableId) → joins_table js t ≡ true
      → w.find t (w.number (foreign_of js t) (at Lineorder)) ≡ Some (at t)

-- k numbers, from i on
abbrev pub numbers : ℕ → ℕ → List ℕ
numbers zero i = []
numbers (suc k) i = i ∷ numbers k (i + 1)

-- the rows that go with row i of the fact
abbrev pub place_in : World → List Join → ℕ → TableId → ℕ
place_in w js i t =
    if is_table t Lineorder then i else unwrap_or (w.find t (w.number (foreign_of js t) i)) 0
