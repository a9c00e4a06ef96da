-- How groups are merged: each adds its totals to every group that it is a part of.
use Rattle.std.specs.{Prelude.{◌≡◌, ◌⊎◌, ℕ, IsTrue, Bool, List, Contains, Option, None, filter, map, replicate}, Cmp.Lexicographic.slice_cmp, List.flat_map, Ordering.is_eq, declared.cmp.Ordering.Ordering}
use Rattle.star_schema.specs.{declared.group.Aggregate.Aggregate, declared.group.Shape.Shape, Groups.GroupRow, Groups.is_grouping, Order.key_cmp}
use Rattle.star_merge_laws.specs.Merging.{as_row, total_over}
use Rattle.star_program.specs.Puts.{masks}

-- whether two groups have the same keys
abbrev pub are_same : {K : Type 0} → (K → K → Ordering) → List (Option K) → List (Option K) → Bool
are_same cmp a b = is_eq (slice_cmp (key_cmp cmp) a b)

-- the totals of a group, under each grouping of its keys
abbrev pub added : {K : Type 0} → Shape → GroupRow K → List (GroupRow K)
added s group =
    map (λ keys. record { keys = keys; totals = group.totals })
    (filter (is_grouping s) (masks (as_row group).keys))

abbrev pub all_added : {K : Type 0} → Shape → List (GroupRow K) → List (GroupRow K)
all_added s groups = flat_map (added s) groups

-- a table with a row for each of these keys, and for the empty grouping if the shape has it, in
-- which the totals of equal keys are merged
pub record AreAddedUp {K : Type 0} (cmp : K → K → Ordering) (s : Shape) (count : ℕ)
    (aggregates : List Aggregate) (parts groups : List (GroupRow K)) : Type 0 where
  pub each : (group : GroupRow K) → Contains groups group
      → (((more : GroupRow K) × Contains (all_added s parts) more × (more.keys ≡ group.keys))
      ⊎ (IsTrue (is_grouping s group.keys) × (group.keys ≡ replicate count None)))
      × (group.totals
      ≡ total_over aggregates (filter (λ more. are_same cmp group.keys more.keys) (all_added s parts)))
  pub all : (more : GroupRow K) → Contains (all_added s parts) more
      → (group : GroupRow K) × Contains groups group × (group.keys ≡ more.keys)
  pub none : IsTrue (is_grouping {K = K} s (replicate count None))
      → (group : GroupRow K) × Contains groups group × (group.keys ≡ replicate count None)
