-- The world of a few rows, and what shows rows.
use Rattle.std.{proofs.Common.{◌≡◌, ◌↔◌, ◌<◌, ℕ, ℤ, List, [], ◌∷◌, Some, None, true, false, length, map, pos, refl}, specs.Prelude.{codes, nat_lt}, specs.Ordering.{is_le, is_lt}}
use Rattle.star_schema.specs.{declared.column.ColumnId.ColumnId, declared.column.ColumnId.TheVariants.{CCustkey, CName, PSize}, declared.table.Key.TheVariants.One, declared.table.TableId.TableId, declared.table.TableId.TheVariants.Customer, Bounds.{greatest, least, numbers_at}, Database.{Database, rows_in}, Dictionary.{dictionary_of, text_cmp}, Loadable.keys_of, Tables.{Number, Text}, Texts.texts_at, Schema.{column_of, key_of, position_of, references, table_of}}
use Rattle.star_interval.specs.Range.{only}
use Rattle.star_program.specs.World.{IsRowNumberOf, World, is_text}
use Rattle.star_world.specs.{RowsSeen.HasNumber, RowsSeen.HasText, RowsSeen.IsCodeOf, RowsSeen.IsWorldOf, WorldOf.world_of}

-- customers, as far as their names
abbrev few : Database
few = record {
  date = [];
  customer = (Number (pos 7) ∷ Text (codes "b") ∷ []) ∷ (Number (pos 9) ∷ Text (codes "a") ∷ [])
      ∷ (Number (pos 4) ∷ Text (codes "b") ∷ []) ∷ [];
  supplier = [];
  part = [];
  lineorder = [];
}

abbrev w : World
w = world_of few

-- two different texts; equal ones have one code, in the order of bytes and not of rows; counts are
-- of a text between the two, of one that is there, and of the empty one
texts : (w.size Customer ≡ 3) × (w.entries CName ≡ 2)
    × (map (w.code CName) (0 ∷ 1 ∷ 2 ∷ []) ≡ 1 ∷ 0 ∷ 1 ∷ [])
    × (map (w.text CName) (0 ∷ 1 ∷ []) ≡ codes "a" ∷ codes "b" ∷ [])
    × (map (w.low CName) (codes "aa" ∷ codes "b" ∷ []) ≡ 1 ∷ 1 ∷ [])
    × (map (w.high CName) (codes "aa" ∷ codes "b" ∷ [] ∷ []) ≡ 1 ∷ 2 ∷ 0 ∷ [])
unfolding column_of position_of texts_at dictionary_of
texts = (refl, refl, refl, refl, refl, refl)

-- a column with no row has the bounds 0 and 0
numbers : (w.number CCustkey 1 ≡ pos 9) × (w.find Customer (pos 4) ≡ Some 2)
    × (w.find Customer (pos 5) ≡ None)
    × (w.bounds CCustkey ≡ record { low = pos 4; high = pos 9 }) × (w.bounds PSize ≡ only (pos 0))
unfolding column_of position_of numbers_at keys_of least greatest
numbers = (refl, refl, refl, refl, refl)

-- ---- what shows rows: a code is below what is counted for just the texts that come after it

module _ (d : Database) (v : World) (c : ColumnId) (text : List ℕ) (code : ℕ) where
  a_code : IsCodeOf v c text code ↔ ((code ≡ v.low c text)
      × ((bound : List ℕ) → nat_lt code (v.low c bound) ≡ is_lt (text_cmp text bound))
      × ((bound : List ℕ) → nat_lt code (v.high c bound) ≡ is_le (text_cmp text bound))
      × (v.text c code ≡ text))
  a_code = (
    λ i. (i.index, i.low, i.high, i.shown),
    λ h. record { index = h.0; low = h.1; high = h.2; shown = h.3 },
  )

  a_world : IsWorldOf d v ↔ (((t : TableId) → v.size t ≡ length (rows_in d t))
      × ((c : ColumnId) (row : ℕ) (n : ℤ) → is_text c ≡ false → HasNumber d c row n
      → v.number c row ≡ n)
      × ((c : ColumnId) (row : ℕ) (text : List ℕ) → is_text c ≡ true → HasText d c row text
      → IsCodeOf v c text (v.code c row))
      × ((key : ColumnId) (n : ℤ) (row : ℕ) → key_of (table_of key) ≡ One key
      → (v.find (table_of key) n ≡ Some row) ↔ HasNumber d key row n)
      × ((c : ColumnId) (t : TableId) (row : ℕ) → references c ≡ Some t
      → row < v.size (table_of c) → IsRowNumberOf v t (v.find t (v.number c row))))
  a_world = (
    λ i. (i.size, i.number, i.code, i.find, i.found),
    λ h. record { size = h.0; number = h.1; code = h.2; find = h.3; found = h.4 },
  )
