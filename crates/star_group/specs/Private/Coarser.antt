-- The rows in which keys are ALL, made from those in which fewer are.
use Rattle.std.specs.{Prelude.{◌≡◌, ℕ, ◌-◌, ◌<◌, ◌≤◌, Bool, false, ◌&&◌, MatchBool, List, [], None, ◌++◌, drop, filter, length, map, slice_index_or, slice_set, take}, List.{list_any, AllByRecursion, IsDistinct}, Map.keys_of}
use Rattle.star_schema.specs.{declared.group.Aggregate.Aggregate, declared.group.Shape.Shape, declared.group.Shape.TheVariants.Plain, declared.group.Shape.TheVariants.Rollup, Groups.is_grouping}
use Rattle.star_program.specs.{declared.key.KeyValue.KeyValue, Puts.Update}
use Rattle.star_group.specs.{Base.{AreInBits, IsRowOver, group_with, key_view, row_found}, BaseKeys.{key_eq, padded, vary, RowKey}, Stores.Group, Private.Merged.IsMergedAt, Keyed.{Entry, Row}}

-- the keys of a put's rows, with each of its keys from this position on as it is or ALL
abbrev pub keys_from : ℕ → ℕ → List KeyValue → List RowKey
keys_from index count ks =
    map (λ rest. take index (padded 6 ks) ++ rest) (vary (count - index) (drop index (padded 6 ks)))

-- the key is that of one of the put's rows, in which no key before this position is ALL: a grouping
-- of its keys
abbrev pub is_among : Shape → ℕ → ℕ → RowKey → List KeyValue → Bool
is_among s index count q ks = is_grouping s (take count q)
    && list_any (key_eq q) (keys_from index count ks)

-- the rows with their keys as they are shown
abbrev pub shown_entries : List Entry → List (RowKey × Row)
shown_entries entries = map (λ e. (key_view e.0, e.1)) entries

-- each key is there once
abbrev pub AreOnce : List Entry → Type 0
AreOnce entries = IsDistinct key_eq (keys_of (shown_entries entries))

-- the rows are those of these puts in which no key before this position is ALL, each once
pub record IsRolledUp (d : Group) (index : ℕ) (entries : List Entry)
    (puts : List Update) : Type 0 where
  pub fit : AllByRecursion (λ put. length put.keys ≡ d.count) puts
  pub rows : (q : RowKey)
      → IsRowOver d (filter (λ put. is_among d.shape index d.count q put.keys) puts)
      (row_found entries q)
  pub once : AreOnce entries

-- they are those of some puts that stay in their bits
pub record IsRolledUpWithRoom (shape : Shape) (count : ℕ) (gs : List Aggregate) (index : ℕ)
    (entries : List Entry) : Type 0 where
  pub puts : List Update
  pub below : index ≤ count
  pub few : count ≤ 6
  pub rows : IsRolledUp (group_with shape count gs) index entries puts
  pub room : AreInBits (group_with shape count gs) puts

-- whichever puts the rows were those of, they now have those in which keys from the later position
-- on are ALL too
abbrev pub RollsUp : Shape → ℕ → List Aggregate → ℕ → List Entry → ℕ → List Entry → Type 0
RollsUp shape count gs index entries index' entries' = (puts : List Update)
    → index ≤ count → count ≤ 6
    → IsRolledUp (group_with shape count gs) index entries puts
    → IsRolledUp (group_with shape count gs) index' entries' puts

-- a row is merged into that of its coarser key, if that is a grouping; else nothing changes
abbrev pub IsMergedWhere : Shape → ℕ → List Aggregate → RowKey → Row → List Entry → List Entry
    → Type 0
IsMergedWhere shape count gs key more entries entries' =
    MatchBool (is_grouping shape (take count key)) (IsMergedAt gs key more entries entries')
    (entries' ≡ entries)

-- of the rows before this one none has a coarser key, with ALL at this position, that is a grouping
abbrev pub NoneCoarser : Shape → ℕ → ℕ → ℕ → List Entry → Type 0
NoneCoarser shape count index from entries = (number : ℕ) → number < from
    → is_grouping shape (take count (slice_set (key_view
    (slice_index_or entries number ([], [])).0) index None)) ≡ false

-- the first position that may be ALL in a row of these groups
abbrev pub first_hidden : Shape → ℕ → ℕ
first_hidden Plain count = count
first_hidden _ count = 0

-- the first row that a pass makes a coarser one of, if there were `row_count` before the pass
-- before it: the rows of a rollup are made each of those that were made last
abbrev pub first_finer : Shape → ℕ → ℕ
first_finer Rollup row_count = row_count
first_finer _ row_count = 0
