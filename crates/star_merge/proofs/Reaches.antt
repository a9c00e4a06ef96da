-- The totals of the plain groups of parts reach no farther than the values of all their rows.
use Rattle.std.{proofs.Common.{◌≡◌, ◌≢◌, ℕ, zero, suc, ◌+◌, ◌*◌, ◌≤◌, ◌^◌, AllPairs, Bool, true, List, [], ◌∷◌, Option, Some, cond, get_or, length, map, refl, ap, arith}, proofs.lemmas.List.{length-append, length-map}, proofs.lemmas.List.Elements.{All-filter, All-head, All-map, All-tail, Contains-get_or}, proofs.lemmas.List.Sums.{sum_by-append, sum_by-cons}, specs.Prelude.{ℤ, pos, ◌+ℤ◌, unsigned_abs}, specs.Int.{int_max, int_min}, specs.List.{All, sum_by}}
use Rattle.star_schema.{specs.declared.group.Aggregate.Aggregate, specs.declared.group.Aggregate.TheVariants.{Count, Max, Min, Sum}, specs.declared.group.Shape.TheVariants.Plain, specs.Groups.{Entry, GroupRow, aggregate, belongs, is_grouping, joined, joined_with, members, numbers_for, totals_from, totals_of}, specs.Order.value_cmp, specs.Tables.Value, proofs.Groupings.shown_masked}
use Rattle.star_merge_laws.{specs.Merging.{IsPart, Part, all_groups, all_rows}, proofs.LoadableParts.{all_first, all_second, pairs_head, pairs_tail}, proofs.Merging.masked_of, proofs.Values.value_decides}
use Rattle.star_merge.{specs.Merged.{distance, reach}, proofs.Small.{both_distance, distance_at, far, no_sum}}

-- all values of a row have 64 bits
abbrev pub IsNarrow : Entry Value → Type 0
IsNarrow row = (index : ℕ) → unsigned_abs (get_or row.values index (pos 0)) ≤ 2 ^ 63

abbrev AreNarrow : List ℤ → Type 0
AreNarrow zs = All (λ z. unsigned_abs z ≤ 2 ^ 63) zs

-- ---- the totals over some rows

module _ (f : ℤ → ℤ → ℤ)
    (adds : (x y : ℤ) → unsigned_abs (f x y) ≤ unsigned_abs x + unsigned_abs y) where
  one_more : (z : ℤ) (o : Option ℤ) → distance (joined_with f z o) ≤ unsigned_abs z + distance o
  one_more z it = grind (arith, adds)

  joined_distance : (zs : List ℤ) → AreNarrow zs → distance (joined f zs) ≤ length zs * 2 ^ 63
  joined_distance [] all = omega arith
  joined_distance (z ∷ zs) all =
      omega (
        arith,
        one_more z (joined f zs),
        All-head (λ z. unsigned_abs z ≤ 2 ^ 63) z zs all,
        joined_distance zs (All-tail (λ z. unsigned_abs z ≤ 2 ^ 63) z zs all),
      )

aggregate_distance : (g : Aggregate) (zs : List ℤ) → AreNarrow zs
    → distance (aggregate g zs) ≤ length zs * 2 ^ 63
aggregate_distance Count zs all = omega arith
aggregate_distance Sum zs all = joined_distance (λ x y. x +ℤ y) (both_distance Sum) zs all
aggregate_distance Min zs all = joined_distance int_min (both_distance Min) zs all
aggregate_distance Max zs all = joined_distance int_max (both_distance Max) zs all

from_distance : (gs : List Aggregate) (from index : ℕ) (rows : List (Entry Value))
    → All IsNarrow rows → distance_at index (totals_from gs from rows) ≤ length rows * 2 ^ 63
from_distance [] from index rows narrow = omega arith
from_distance (g ∷ gs) from zero rows narrow =
    omega (
      arith,
      aggregate_distance g (numbers_for from rows)
          (All-map (λ z. unsigned_abs z ≤ 2 ^ 63) (λ row. get_or row.values from (pos 0)) rows
          (λ k d within. narrow k d within from)),
      length-map rows (λ row. get_or row.values from (pos 0)),
    )
from_distance (g ∷ gs) from (suc index) rows narrow = from_distance gs (from + 1) index rows narrow

-- ---- a row is of at most one plain group

abbrev IsPlain : GroupRow Value → Type 0
IsPlain group = is_grouping Plain group.keys ≡ true

abbrev AreApart : GroupRow Value → GroupRow Value → Type 0
AreApart a b = a.keys ≢ b.keys

module _ (row : Entry Value) where
  abbrev is_of : GroupRow Value → Bool
  is_of group = belongs value_cmp group.keys row.keys

  abbrev once : GroupRow Value → ℕ
  once group = cond (is_of group) 1 0

  own_keys : (group : GroupRow Value) → IsPlain group → is_of group ≡ true
      → group.keys ≡ map Some row.keys
  own_keys group plain h =
      shown_masked group.keys row.keys plain
      (masked_of value_cmp value_decides group.keys row.keys h)

  of_no_other : (group : GroupRow Value) (groups : List (GroupRow Value)) → IsPlain group
      → All IsPlain groups → All (AreApart group) groups → is_of group ≡ true
      → sum_by once groups ≡ 0
  of_no_other group [] plain are apart h = refl
  of_no_other group (other ∷ groups) plain are apart h =
      grind (
        arith,
        sum_by-cons once other groups,
        own_keys,
        All-head IsPlain other groups are,
        All-head (AreApart group) other groups apart,
        of_no_other group groups plain (All-tail IsPlain other groups are)
            (All-tail (AreApart group) other groups apart) h,
      )

  of_one : (groups : List (GroupRow Value)) → All IsPlain groups → AllPairs AreApart groups
      → sum_by once groups ≤ 1
  of_one [] are apart = omega arith
  of_one (group ∷ groups) are apart =
      grind (
        arith,
        sum_by-cons once group groups,
        of_one groups (All-tail IsPlain group groups are) (pairs_tail AreApart group groups apart),
        of_no_other group groups (All-head IsPlain group groups are)
            (All-tail IsPlain group groups are) (pairs_head AreApart group groups apart),
      )

-- the groups have no more rows than there are
abbrev count_of : List (Entry Value) → GroupRow Value → ℕ
count_of rows group = length (members value_cmp group.keys rows)

counted_more : (row : Entry Value) (rows : List (Entry Value)) (group : GroupRow Value)
    → count_of (row ∷ rows) group ≡ once row group + count_of rows group
counted_more row rows group = grind arith

sums_together : {X : Type 0} (f g h : X → ℕ) → ((x : X) → h x ≡ f x + g x) → (xs : List X)
    → sum_by h xs ≡ sum_by f xs + sum_by g xs
sums_together f g h is [] = refl
sums_together f g h is (x ∷ xs) =
    omega (
      arith,
      sum_by-cons f x xs,
      sum_by-cons g x xs,
      sum_by-cons h x xs,
      is x,
      sums_together f g h is xs,
    )

all_counted : (groups : List (GroupRow Value)) → All IsPlain groups → AllPairs AreApart groups
    → (rows : List (Entry Value)) → sum_by (count_of rows) groups ≤ length rows
all_counted groups are apart [] = omega (arith, no_sum groups)
all_counted groups are apart (row ∷ rows) =
    omega (
      arith,
      of_one row groups are apart,
      all_counted groups are apart rows,
      sums_together (once row) (count_of rows) (count_of (row ∷ rows))
          (counted_more row rows) groups,
    )

-- ---- parts

module _ (count : ℕ) (gs : List Aggregate) (index : ℕ) where
  abbrev IsOver : List (Entry Value) → GroupRow Value → Type 0
  IsOver rows group = group.totals ≡ totals_of gs (members value_cmp group.keys rows)

  groups_reach : (rows : List (Entry Value)) → All IsNarrow rows → (groups : List (GroupRow Value))
      → All (IsOver rows) groups → reach index groups ≤ sum_by (count_of rows) groups * 2 ^ 63
  groups_reach rows narrow [] are = omega arith
  groups_reach rows narrow (group ∷ groups) are =
      omega (
        arith,
        sum_by-cons (far index) group groups,
        sum_by-cons (count_of rows) group groups,
        ap (distance_at index) (All-head (IsOver rows) group groups are),
        from_distance gs 0 index (members value_cmp group.keys rows)
            (All-filter (λ row. belongs value_cmp group.keys row.keys) IsNarrow rows narrow),
        groups_reach rows narrow groups (All-tail (IsOver rows) group groups are),
      )

  part_reach : (part : Part Value) → IsPart value_cmp count gs part → All IsNarrow part.rows
      → reach index part.groups ≤ length part.rows * 2 ^ 63
  part_reach part is narrow =
      let each = is.groups.each in
      omega (
        arith,
        groups_reach part.rows narrow part.groups
            (λ k d within. (each (get_or part.groups k d)
            (Contains-get_or part.groups k d within)).1),
        all_counted part.groups
            (λ k d within. (each (get_or part.groups k d)
            (Contains-get_or part.groups k d within)).0.0)
            is.once part.rows,
      )

  pub parts_reach : (parts : List (Part Value)) → All (IsPart value_cmp count gs) parts
      → All IsNarrow (all_rows parts)
      → reach index (all_groups parts) ≤ length (all_rows parts) * 2 ^ 63
  parts_reach [] are narrow = omega arith
  parts_reach (part ∷ parts) are narrow =
      omega (
        arith,
        sum_by-append (far index) part.groups (all_groups parts),
        length-append part.rows (all_rows parts),
        part_reach part (All-head (IsPart value_cmp count gs) part parts are)
            (all_first (λ x y. Unit {0}) IsNarrow part.rows (all_rows parts) narrow),
        parts_reach parts (All-tail (IsPart value_cmp count gs) part parts are)
            (all_second (λ x y. Unit {0}) IsNarrow part.rows (all_rows parts) narrow),
      )
