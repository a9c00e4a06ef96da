-- Rows by their keys, and one more row merged into some of them.
use Rattle.std.specs.{Prelude.{◌≡◌, ℕ, Bool, true, false, List, [], Option, None, map, slice_index_or, take}, List.list_any, Option.unwrap_or}
use Rattle.star_schema.specs.{declared.group.Aggregate.Aggregate, declared.group.Shape.Shape, Groups.is_grouping}
use Rattle.star_group.specs.{declared.keyed.key.KeyPart.KeyPart, Base.key_view, BaseKeys.{key_eq, RowKey}, Private.Merged.{IsMergedInto, MergeLeaves, MergeStays}, Keyed.Row}

-- a row over no puts
abbrev pub IsBlank : Row → Type 0
IsBlank row = (index : ℕ) → slice_index_or row index None ≡ None

-- a row has this key: a grouping
abbrev pub is_row_key : Shape → ℕ → RowKey → Bool
is_row_key s count q = is_grouping s (take count q)

-- the key is one of these
abbrev pub is_one_of : List (List KeyPart) → RowKey → Bool
is_one_of keys q = list_any (key_eq q) (map key_view keys)

-- with one more row merged in no aggregate of a row of these keys leaves its bits
pub record AllStay (look : RowKey → Option Row) (own : RowKey → Bool) (gs : List Aggregate)
    (more : Row) : Type 0 where
  pub stay : (key : RowKey) → own key ≡ true → MergeStays gs (unwrap_or (look key) []) more

-- and here one does
pub record SomeLeaves (look : RowKey → Option Row) (own : RowKey → Bool) (gs : List Aggregate)
    (more : Row) : Type 0 where
  pub key : RowKey
  pub among : own key ≡ true
  pub leaves : MergeLeaves gs (unwrap_or (look key) []) more

-- the rows of these keys have one more merged in, and the others are as they were
pub record MergesAll (own : RowKey → Bool) (gs : List Aggregate) (more : Row)
    (old new : RowKey → Option Row) : Type 0 where
  pub changed : (key : RowKey) → own key ≡ true → IsMergedInto gs more (old key) (new key)
  pub same : (key : RowKey) → own key ≡ false → new key ≡ old key

-- and no aggregate of a row leaves its bits
pub record PutsRows (own : RowKey → Bool) (gs : List Aggregate) (more : Row)
    (old new : RowKey → Option Row) : Type 0 where
  pub merges : MergesAll own gs more old new
  pub stay : AllStay old own gs more
