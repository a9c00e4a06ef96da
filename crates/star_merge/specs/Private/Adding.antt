-- Rows of groups added up: rows with equal keys become one.
use Rattle.std.specs.{Prelude.{◌≡◌, ◌≤◌, ◌<◌, ◌^◌, ◌+◌, ◌++◌, ℕ, ℤ, List, [], ◌∷◌, All, Bool, false, Option, None, filter, map, replicate, reverse, slice_index_or, if◌then◌else◌}, List.{list_any, sum_by}, declared.cmp.Ordering.Ordering}
use Rattle.star_schema.specs.{declared.group.Aggregate.Aggregate, declared.group.Shape.Shape, Groups.GroupRow, Groups.is_grouping, Groups.totals_of, Tables.Value, Order.value_cmp}
use Rattle.star_merge.specs.{declared.merging.Merging.Merging, Merged.{distance, reach}}
use Rattle.star_merge_laws.specs.{Merging.merged_totals, Merging.total_over, Regrouping.all_added, Regrouping.are_same}
use Rattle.star_program.specs.Puts.{masks}

-- aggregates over no rows
abbrev pub over_nothing : List Aggregate → List (Option ℤ)
over_nothing gs = totals_of {K = Value} gs []

-- some row has these keys
abbrev pub is_there : {K : Type 0} → (K → K → Ordering) → List (Option K) → List (GroupRow K) → Bool
is_there cmp keys rows = list_any (λ row. are_same cmp keys row.keys) rows

-- the merged totals of the rows with these keys
abbrev pub total_at : {K : Type 0} → (K → K → Ordering) → List Aggregate → List (Option K)
    → List (GroupRow K) → List (Option ℤ)
total_at cmp gs keys rows = total_over gs (filter (λ row. are_same cmp keys row.keys) rows)

-- some rows have the keys of others, and under each the same merged totals
pub record AddUpAlike {K : Type 0} (cmp : K → K → Ordering) (gs : List Aggregate)
    (rows others : List (GroupRow K)) : Type 0 where
  pub keys : (keys : List (Option K)) → is_there cmp keys rows ≡ is_there cmp keys others
  pub totals : (keys : List (Option K)) → total_at cmp gs keys rows ≡ total_at cmp gs keys others

-- the totals of a row, with those over nothing
abbrev pub alone : {K : Type 0} → List Aggregate → GroupRow K → GroupRow K
alone {K} gs row =
    record { keys = row.keys; totals = merged_totals gs row.totals (totals_of {K = K} gs []) }

-- a row before others: if the first has the same keys, it is merged into that
abbrev pub onto : {K : Type 0} → (K → K → Ordering) → List Aggregate → GroupRow K
    → List (GroupRow K) → List (GroupRow K)
onto cmp gs row [] = alone gs row ∷ []
onto cmp gs row (next ∷ rows) =
    if are_same cmp row.keys next.keys
    then record { keys = row.keys; totals = merged_totals gs row.totals next.totals } ∷ rows
    else alone gs row ∷ next ∷ rows

-- neighbours with equal keys become one
abbrev pub together : {K : Type 0} → (K → K → Ordering) → List Aggregate → List (GroupRow K)
    → List (GroupRow K)
together cmp gs [] = []
together cmp gs (row ∷ rows) = onto cmp gs row (together cmp gs rows)

-- no two rows have the same keys
abbrev pub AreApart : {K : Type 0} → (K → K → Ordering) → List (GroupRow K) → Type 0
AreApart cmp [] = Unit {0}
AreApart cmp (row ∷ rows) = (is_there cmp row.keys rows ≡ false) × AreApart cmp rows

-- a row for each key list of some rows, with the merged totals under it
pub record AreSums {K : Type 0} (cmp : K → K → Ordering) (gs : List Aggregate)
    (rows sums : List (GroupRow K)) : Type 0 where
  pub alike : AddUpAlike cmp gs sums rows
  pub whole : All (λ row. (alone gs row).totals ≡ row.totals) sums
  pub apart : AreApart cmp sums

-- these totals under each grouping of some keys that has certain keys first
abbrev pub masked : {K : Type 0} → Shape → List (Option ℤ) → List (Option K) → List K
    → List (GroupRow K)
masked s totals first keys =
    map (λ more. record { keys = first ++ more; totals = totals })
    (filter (λ more. is_grouping s (first ++ more)) (masks keys))

-- the group of all rows, over none, if the shape has it
abbrev pub empty_total : {K : Type 0} → Shape → ℕ → List Aggregate → List (GroupRow K)
empty_total {K} s count gs =
    if is_grouping {K = K} s (replicate count None)
    then record { keys = replicate count None; totals = totals_of {K = K} gs [] } ∷ []
    else []

-- all rows that are added up for some plain groups
abbrev pub addends : {K : Type 0} → Shape → ℕ → List Aggregate → List (GroupRow K)
    → List (GroupRow K)
addends s count gs groups = empty_total s count gs ++ all_added s groups

-- two totals at an index can be added within 128 bits
abbrev pub AddUpSmall : List (Option ℤ) → List (Option ℤ) → Type 0
AddUpSmall totals more =
    (index : ℕ) → distance (slice_index_or totals index None)
    + distance (slice_index_or more index None) < 2 ^ 127

-- the reach of the groups with these keys
abbrev pub reach_at : (keys : List (Option Value)) → (index : ℕ) → List (GroupRow Value) → ℕ
reach_at keys index groups =
    sum_by (λ group. if are_same value_cmp keys group.keys
    then distance (slice_index_or group.totals index None) else 0) groups

-- the groups of each key list are small
abbrev pub AreSmallByKeys : List (GroupRow Value) → Type 0
AreSmallByKeys groups =
    (keys : List (Option Value)) (index : ℕ) → reach_at keys index groups < 2 ^ 127

-- the groups of each key list reach no farther than before
abbrev pub ReachNoFarther : (groups before : List (GroupRow Value)) → Type 0
ReachNoFarther groups before =
    (keys : List (Option Value)) (index : ℕ)
    → reach_at keys index groups ≤ reach_at keys index before

-- the groups so far, of some given groups
pub record HasMerged (s : Shape) (keys : ℕ) (gs : List Aggregate) (plain : List (GroupRow Value))
    (merging : Merging) : Type 0 where
  pub by_shape : merging.shape ≡ s
  pub count : merging.count ≡ keys
  pub aggregates : merging.aggregates.items ≡ gs
  pub alike : AddUpAlike value_cmp gs merging.groups.items (addends s keys gs plain)
  pub within : (keys : List (Option Value)) (index : ℕ)
      → reach_at keys index merging.groups.items ≤ reach index plain

-- neighbours of the last of some groups are merged, in reverse order
pub record HasJoined (gs : List Aggregate) (groups rest merged : List (GroupRow Value)) : Type 0
  where
    pub done : List (GroupRow Value)
    pub split : groups ≡ rest ++ done
    pub joined : reverse merged ≡ together value_cmp gs done
