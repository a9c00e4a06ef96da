-- The index of a table's keys.
use Rattle.std.specs.{Prelude.{◌≡◌, ◌↔◌, ◌&&◌, ℕ, ℤ, Bool, List, [], ◌∷◌, Option, Some, None, slice_get}, Ordering.{int_cmp, int_eq, ordering_then}, declared.cmp.Ordering.Ordering}
use Rattle.star_catalogue.specs.{Private.Indexed.row_of_key, declared.keys.KeyIndex.KeyIndex, declared.keys.KeyIndex.TheVariants.Dimension, declared.keys.KeyIndex.TheVariants.Pairs}

-- the row of a number as a key, if there is one
abbrev pub row_in : KeyIndex → ℤ → Option ℕ
row_in (Dimension keys) key = row_of_key keys key
row_in Pairs key = None

-- each number leads to the only row with this key
abbrev pub AreKept : KeyIndex → List (List ℤ) → Type 0
AreKept index keys =
    (key : ℤ) (row : ℕ) → (row_in index key ≡ Some row) ↔ (slice_get keys row ≡ Some (key ∷ []))

-- whether two pairs are equal
abbrev pub same_pair : ℤ × ℤ → ℤ × ℤ → Bool
same_pair a b = int_eq a.0 b.0 && int_eq a.1 b.1

-- pairs compare by their first numbers, then by their second ones
abbrev pub pair_cmp : ℤ × ℤ → ℤ × ℤ → Ordering
pair_cmp a b = ordering_then (int_cmp a.0 b.0) (int_cmp a.1 b.1)
