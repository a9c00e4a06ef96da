-- The positions of keys.
use Rattle.std.specs.{Prelude.{◌≡◌, ◌↔◌, ◌-ℤ◌, if◌then◌else◌, ℕ, ℤ, Bool, true, List, Option, Some, None, nat_eq, slice_get}, Int.RustNames.{int_lt, unsigned_abs}}

-- a key is at an index of some keys
pub record StandsAt {K : Type 0} (same : K → K → Bool) (keys : List K) (index : ℕ)
    (key : K) : Type 0 where
  pub stored : K
  pub there : slice_get keys index ≡ Some stored
  pub equal : same key stored ≡ true

-- each key leads to its index among some keys, and no other number leads anywhere
pub record AreIndexes {K : Type 0} (same : K → K → Bool) (position_of : K → Option ℕ)
    (keys : List K) : Type 0 where
  pub found : (key : K) (index : ℕ) → (position_of key ≡ Some index) ↔ StandsAt same keys index key

-- an entry for a row, or the greatest number of 32 bits, which is no row, for none
abbrev pub row_of_slot : Option ℕ → Option ℕ
row_of_slot None = None
row_of_slot (Some row) = if nat_eq row 4294967295 then None else Some row

-- the row of a key, from the array that begins with the least key
abbrev pub dense_at : ℤ → List ℕ → ℤ → Option ℕ
dense_at least rows key =
    if int_lt key least then None else row_of_slot (slice_get rows (unsigned_abs (key -ℤ least)))
