-- Groups over the rows of several parts, merged from the plain groups of each: SUM, COUNT, MIN and
-- MAX are distributive (Gray et al. 1997, section 5).
use Rattle.std.specs.{Prelude.{◌≡◌, ◌≢◌, ℕ, ℤ, ◌+ℤ◌, List, [], ◌∷◌, AllPairs, Contains, Option, Some, None, filter, map}, Int.{int_min, int_max}, List.flat_map, Option.option_to_list, declared.cmp.Ordering.Ordering}
use Rattle.star_schema.specs.{Groups.{AreGroups, Entry, GroupRow, IsGroup, belongs, totals_of}, declared.group.Aggregate.Aggregate, declared.group.Aggregate.TheVariants.{Sum, Count, Min, Max}, declared.group.Shape.Shape, declared.group.Shape.TheVariants.Plain}

-- an aggregate over two sets of rows, from those over each: counts are added
abbrev pub both : Aggregate → ℤ → ℤ → ℤ
both Sum x y = x +ℤ y
both Count x y = x +ℤ y
both Min x y = int_min x y
both Max x y = int_max x y

-- NULL, which is over no rows, adds nothing
abbrev pub merged : Aggregate → Option ℤ → Option ℤ → Option ℤ
merged g None more = more
merged g (Some x) None = Some x
merged g (Some x) (Some y) = Some (both g x y)

-- each aggregate of two groups
abbrev pub merged_totals : List Aggregate → List (Option ℤ) → List (Option ℤ) → List (Option ℤ)
merged_totals (g ∷ gs) (x ∷ xs) (y ∷ ys) = merged g x y ∷ merged_totals gs xs ys
merged_totals _ _ _ = []

-- the merged aggregates of some groups
abbrev pub total_over : {K : Type 0} → List Aggregate → List (GroupRow K) → List (Option ℤ)
total_over {K} gs [] = totals_of {K = K} gs []
total_over gs (group ∷ groups) = merged_totals gs group.totals (total_over gs groups)

-- a group as a row that is grouped again: by the keys that it shows
abbrev pub as_row : {K : Type 0} → GroupRow K → Entry K
as_row group = record { keys = flat_map option_to_list group.keys; values = [] }

-- the groups that make up a coarser one
abbrev pub parts_of : {K : Type 0} → (K → K → Ordering) → List (Option K) → List (GroupRow K)
    → List (GroupRow K)
parts_of cmp keys groups = filter (λ group. belongs cmp keys (as_row group).keys) groups

-- groups of a shape, merged from the plain groups of parts: each groups some of these and has their
-- merged aggregates, and no such group is missing
pub record AreMerged {K : Type 0} (cmp : K → K → Ordering) (s : Shape) (count : ℕ)
    (aggregates : List Aggregate) (parts groups : List (GroupRow K)) : Type 0 where
  pub each : (group : GroupRow K) → Contains groups group
      → IsGroup s count (map as_row parts) group.keys
      × (group.totals ≡ total_over aggregates (parts_of cmp group.keys parts))
  pub all : (keys : List (Option K)) → IsGroup s count (map as_row parts) keys
      → (group : GroupRow K) × Contains groups group × (group.keys ≡ keys)

-- some rows with their groups
pub record Part (K : Type 0) : Type 0 where
  pub rows : List (Entry K)
  pub groups : List (GroupRow K)

-- the groups are the plain groups of the rows, each once
pub record IsPart {K : Type 0} (cmp : K → K → Ordering) (count : ℕ) (aggregates : List Aggregate)
    (part : Part K) : Type 0 where
  pub groups : AreGroups cmp Plain count aggregates part.rows part.groups
  pub once : AllPairs (λ a b. a.keys ≢ b.keys) part.groups

abbrev pub all_rows : {K : Type 0} → List (Part K) → List (Entry K)
all_rows parts = flat_map (λ part. part.rows) parts

abbrev pub all_groups : {K : Type 0} → List (Part K) → List (GroupRow K)
all_groups parts = flat_map (λ part. part.groups) parts
