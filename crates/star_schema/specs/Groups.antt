-- Groups of rows and their aggregates, over any kind of keys (Gray et al. 1997, sections 3 and 4).
use Rattle.std.specs.{Prelude.{◌≡◌, ◌⊎◌, ℕ, ◌+◌, ℤ, pos, ◌+ℤ◌, IsTrue, Bool, true, false, ◌&&◌, List, [], ◌∷◌, Contains, length, map, filter, replicate, slice_index_or, Option, Some, None}, Int.{int_min, int_max}, List.list_all, Option.{is_none, is_some}, Ordering.is_eq, declared.cmp.Ordering.Ordering}
use Rattle.star_schema.specs.declared.group.{Shape.Shape, Shape.TheVariants.Plain, Shape.TheVariants.Cube, Shape.TheVariants.Rollup, Aggregate.Aggregate, Aggregate.TheVariants.Sum, Aggregate.TheVariants.Count, Aggregate.TheVariants.Min, Aggregate.TheVariants.Max}

-- what a row contributes to its groups: its keys, and a number for each aggregate, which for COUNT
-- is 1
pub record Entry (K : Type 0) : Type 0 where
  pub keys : List K
  pub values : List ℤ

-- ---- groups

-- which keys a grouping of a shape shows; the others have the value ALL, which is None. Plain shows
-- all keys, a cube any subset, a rollup any prefix
abbrev pub is_grouping : {K : Type 0} → Shape → List (Option K) → Bool
is_grouping Plain ms = list_all is_some ms
is_grouping Cube ms = true
is_grouping Rollup [] = true
is_grouping Rollup (Some m ∷ ms) = is_grouping Rollup ms
is_grouping Rollup (None ∷ ms) = list_all is_none ms

-- the keys of a row, some of them replaced by ALL
abbrev pub IsMasked : {K : Type 0} → List (Option K) → List K → Type 0
IsMasked [] [] = Unit {0}
IsMasked (Some m ∷ ms) (k ∷ ks) = (m ≡ k) × IsMasked ms ks
IsMasked (None ∷ ms) (k ∷ ks) = IsMasked ms ks
IsMasked _ _ = ⊥

-- the keys of a group of rows with `count` keys each: a grouping of the keys of a row. The grouping
-- by no key has its one group over no rows too
abbrev pub IsGroup : {K : Type 0} → Shape → ℕ → List (Entry K) → List (Option K) → Type 0
IsGroup {K} s count rows keys =
    IsTrue (is_grouping s keys)
    × (((row : Entry K) × Contains rows row × IsMasked keys row.keys) ⊎ (keys ≡ replicate count None))

-- a row belongs to a group: each key of the group is ALL or the row's own
abbrev pub belongs : {K : Type 0} → (K → K → Ordering) → List (Option K) → List K → Bool
belongs cmp [] [] = true
belongs cmp (None ∷ ms) (k ∷ ks) = belongs cmp ms ks
belongs cmp (Some m ∷ ms) (k ∷ ks) = is_eq (cmp m k) && belongs cmp ms ks
belongs cmp _ _ = false

-- the rows of a group
abbrev pub members : {K : Type 0} → (K → K → Ordering) → List (Option K) → List (Entry K)
    → List (Entry K)
members cmp keys rows = filter (λ row. belongs cmp keys row.keys) rows

-- ---- aggregates; None is NULL

abbrev pub joined_with : (ℤ → ℤ → ℤ) → ℤ → Option ℤ → Option ℤ
joined_with f x None = Some x
joined_with f x (Some y) = Some (f x y)

-- the numbers combined by an operation; None if there are none
abbrev pub joined : (ℤ → ℤ → ℤ) → List ℤ → Option ℤ
joined f [] = None
joined f (x ∷ xs) = joined_with f x (joined f xs)

abbrev pub aggregate : Aggregate → List ℤ → Option ℤ
aggregate Count numbers = Some (pos (length numbers))
aggregate Sum numbers = joined (λ x y. x +ℤ y) numbers
aggregate Min numbers = joined int_min numbers
aggregate Max numbers = joined int_max numbers

-- the numbers of one aggregate, one for each row
abbrev pub numbers_for : {K : Type 0} → ℕ → List (Entry K) → List ℤ
numbers_for index rows = map (λ row. slice_index_or row.values index (pos 0)) rows

-- each aggregate over some rows, beginning with the aggregate at an index
abbrev pub totals_from : {K : Type 0} → List Aggregate → ℕ → List (Entry K) → List (Option ℤ)
totals_from [] index rows = []
totals_from (a ∷ as') index rows =
    aggregate a (numbers_for index rows) ∷ totals_from as' (index + 1) rows

abbrev pub totals_of : {K : Type 0} → List Aggregate → List (Entry K) → List (Option ℤ)
totals_of aggregates rows = totals_from aggregates 0 rows

-- ---- the rows of a report: a group's keys, in which None is ALL, and its aggregates, in which
-- None is NULL

pub record GroupRow (K : Type 0) : Type 0 where
  pub keys : List (Option K)
  pub totals : List (Option ℤ)

-- each row is a group with its aggregates, and each group has a row
pub record AreGroups {K : Type 0} (cmp : K → K → Ordering) (s : Shape) (count : ℕ)
    (aggregates : List Aggregate) (rows : List (Entry K))
    (groups : List (GroupRow K)) : Type 0 where
  pub each : (group : GroupRow K) → Contains groups group
      → IsGroup s count rows group.keys
      × (group.totals ≡ totals_of aggregates (members cmp group.keys rows))
  pub all : (keys : List (Option K)) → IsGroup s count rows keys
      → (group : GroupRow K) × Contains groups group × (group.keys ≡ keys)
