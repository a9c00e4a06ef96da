-- The numbers of rows by their keys, and the room for more of them.
use Rattle.std.specs.{Prelude.{◌≡◌, ℕ, ◌+◌, ◌*◌, ◌^◌, ◌<◌, ◌≤◌, List, drop, length, vec_len}, List.AllByRecursion, Vec.vec_capacity}
use Rattle.star_schema.specs.declared.group.Aggregate.{Aggregate}
use Rattle.star_group.specs.{declared.keyed.key.KeyPart.KeyPart, declared.keyed.KeyedRows.KeyedRows, declared.keyed.ListedRows.ListedRows, Keyed.{all_rolled_up, Row}}
use Rattle.star_program.specs.Rows.{cut}

abbrev pub listed_keys : ListedRows → List (List KeyPart)
listed_keys rows = cut rows.width rows.len rows.keys.items

abbrev pub keys_in : KeyedRows → List (List KeyPart)
keys_in rows = listed_keys rows.listed

-- past `width` positions a key has ALL
abbrev pub IsNarrow : ℕ → List KeyPart → Type 0
IsNarrow width key = drop width key ≡ drop width all_rolled_up

abbrev pub AreNarrow : ℕ → List (List KeyPart) → Type 0
AreNarrow width keys = AllByRecursion (IsNarrow width) keys

-- a row of these aggregates, or of more numbers than they, fits among the rows
pub record FitsIn (rows : KeyedRows) (gs : List Aggregate) (row : Row) : Type 0 where
  pub many : length gs ≡ rows.listed.aggregate_count
  pub wide : rows.listed.aggregate_count ≤ length row

-- the rows have as many keys and as many aggregates as they had
pub record AreAsWide (old new : KeyedRows) : Type 0 where
  pub width : new.listed.width ≡ old.listed.width
  pub many : new.listed.aggregate_count ≡ old.listed.aggregate_count

-- `count` more rows fit in without memory
pub record HasRowSpace (rows : ListedRows) (count : ℕ) : Type 0 where
  pub len : rows.len + count < 2 ^ 64
  pub keys : vec_len rows.keys + count * rows.width ≤ vec_capacity rows.keys
  pub cells : vec_len rows.cells + count * rows.aggregate_count ≤ vec_capacity rows.cells

-- and can be found
pub record HasSpace (rows : KeyedRows) (count : ℕ) : Type 0 where
  pub listed : HasRowSpace rows.listed count
  pub links : vec_len rows.links + count ≤ vec_capacity rows.links
  pub nodes : vec_len rows.links + count ≤ 2 ^ 32
