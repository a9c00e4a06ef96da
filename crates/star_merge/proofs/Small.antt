-- Sums of small totals have 128 bits.
use Rattle.std.{proofs.Common.{◌≡◌, ◌∙◌, ℕ, zero, suc, ◌+◌, ◌<◌, ◌≤◌, ◌^◌, Bool, true, List, [], ◌∷◌, ◌++◌, Option, Some, None, cond, get_or, map, not, refl, sym, ap, arith}, proofs.lemmas.Int.{clamps, ints}, proofs.lemmas.List.reverse-append, proofs.lemmas.List.Filters.sum_by-filter_both, proofs.lemmas.List.Sums.{sum_by-append, sum_by-cons, sum_by_push}, proofs.lemmas.List.Sorted.{IsPermutation-reverse, sum_by-IsPermutation}, specs.Prelude.{ℤ, filter, replicate, reverse, unsigned_abs}, specs.Cmp.Lexicographic.slice_cmp, specs.List.sum_by, specs.List.Sorted.IsPermutation, specs.Ordering.{is_eq, ordering_then}, specs.declared.cmp.Ordering.Ordering}
use Rattle.star_interval.specs.Range.{is_i128}
use Rattle.star_schema.specs.{declared.group.Aggregate.Aggregate, declared.group.Shape.Shape, Groups.GroupRow, Groups.aggregate, Groups.is_grouping, Groups.totals_from, Order.key_cmp, Order.value_cmp, Tables.Value}
use Rattle.star_program.specs.Puts.{masks}
use Rattle.star_merge_laws.{specs.Merging.{as_row, both, merged, merged_totals}, specs.Regrouping.{added, all_added, are_same}, proofs.Regrouping.keys_are, proofs.Values.value_decides}
use Rattle.star_merge.{specs.Merged.{AreSmall, distance, reach}, specs.Private.Adding.{AddUpSmall, AreSmallByKeys, HasJoined, ReachNoFarther, alone, empty_total, onto, over_nothing, reach_at, together}, proofs.Alike.same_itself}

-- ---- two totals

pub both_distance : (g : Aggregate) (x y : ℤ)
    → unsigned_abs (both g x y) ≤ unsigned_abs x + unsigned_abs y
both_distance it x y = grind (arith, ints, clamps)

small_fits : (z : ℤ) → unsigned_abs z < 2 ^ 127 → is_i128 z ≡ true
unfolding is_i128
small_fits z h = grind (arith, ints)

pub both_fit : (g : Aggregate) (x y : ℤ) → unsigned_abs x + unsigned_abs y < 2 ^ 127
    → is_i128 (both g x y) ≡ true
both_fit g x y h = small_fits (both g x y) (omega (arith, both_distance g x y))

merged_distance : (g : Aggregate) (x y : Option ℤ)
    → distance (merged g x y) ≤ distance x + distance y
merged_distance g it y = grind (arith, both_distance)

abbrev pub distance_at : ℕ → List (Option ℤ) → ℕ
distance_at index totals = distance (get_or totals index None)

pub totals_distance : (gs : List Aggregate) (xs ys : List (Option ℤ)) (index : ℕ)
    → distance_at index (merged_totals gs xs ys) ≤ distance_at index xs + distance_at index ys
totals_distance [] xs ys index = omega arith
totals_distance (g ∷ gs) [] ys index = omega arith
totals_distance (g ∷ gs) (x ∷ xs) [] index = omega arith
totals_distance (g ∷ gs) (x ∷ xs) (y ∷ ys) zero = merged_distance g x y
totals_distance (g ∷ gs) (x ∷ xs) (y ∷ ys) (suc index) = totals_distance gs xs ys index

none_distance : (g : Aggregate) → distance (aggregate g []) ≡ 0
none_distance it = grind arith

nothing_distance : (gs : List Aggregate) (from index : ℕ)
    → distance_at index (totals_from {K = Value} gs from []) ≡ 0
nothing_distance [] from index = refl
nothing_distance (g ∷ gs) from zero = none_distance g
nothing_distance (g ∷ gs) from (suc index) = nothing_distance gs (from + 1) index

pub first_small : (x y : Option ℤ) (all more xs ys : List (Option ℤ)) → all ≡ x ∷ xs → more ≡ y ∷ ys
    → AddUpSmall all more → distance x + distance y < 2 ^ 127
first_small x y all more xs ys e f small =
    omega (arith, small 0, ap (distance_at 0) e, ap (distance_at 0) f)

pub rest_small : (x y : Option ℤ) (all more xs ys : List (Option ℤ)) → all ≡ x ∷ xs → more ≡ y ∷ ys
    → AddUpSmall all more → AddUpSmall xs ys
rest_small x y all more xs ys e f small index =
    omega (arith, small (suc index), ap (distance_at (suc index)) e, ap (distance_at (suc index)) f)

-- ---- the groups with some keys

abbrev pub far : ℕ → GroupRow Value → ℕ
far index group = distance_at index group.totals

abbrev far_at : List (Option Value) → ℕ → GroupRow Value → ℕ
far_at keys index group = cond (are_same value_cmp keys group.keys) (far index group) 0

cond_grows : (b : Bool) (m n : ℕ) → m ≤ n → cond b m 0 ≤ cond b n 0
cond_grows it m n h = grind arith

module _ (gs : List Aggregate) (keys : List (Option Value)) (index : ℕ) where
  abbrev reached : List (GroupRow Value) → ℕ
  reached rows = sum_by (far_at keys index) rows

  alone_far : (row : GroupRow Value) → far_at keys index (alone gs row) ≤ far_at keys index row
  alone_far row =
      cond_grows (are_same value_cmp keys row.keys) (far index (alone gs row)) (far index row)
      (omega (
        arith,
        totals_distance gs row.totals (over_nothing gs) index,
        nothing_distance gs 0 index,
      ))

  onto_reach : (row : GroupRow Value) (rows : List (GroupRow Value))
      → reached (onto value_cmp gs row rows) ≤ far_at keys index row + reached rows
  onto_reach row [] = omega (arith, alone_far row)
  onto_reach row (next ∷ rows) =
      let both : GroupRow Value =
      record { keys = row.keys; totals = merged_totals gs row.totals next.totals } in
      grind (
        arith,
        alone_far row,
        sum_by-cons (far_at keys index) both rows,
        sum_by-cons (far_at keys index) next rows,
        sum_by-cons (far_at keys index) (alone gs row) (next ∷ rows),
        keys_are value_cmp value_decides row.keys next.keys,
        totals_distance gs row.totals next.totals index,
      )

  together_reach : (rows : List (GroupRow Value))
      → reached (together value_cmp gs rows) ≤ reached rows
  together_reach [] = omega arith
  together_reach (row ∷ rows) =
      omega (
        arith,
        onto_reach row (together value_cmp gs rows),
        together_reach rows,
        sum_by-cons (far_at keys index) row rows,
      )

-- ---- the groups that one adds

mapped_sum : {X Y : Type 0} (f : Y → ℕ) (g : X → Y) (xs : List X)
    → sum_by f (map g xs) ≡ sum_by (λ x. f (g x)) xs
mapped_sum f g [] = refl
mapped_sum f g (x ∷ xs) =
    sum_by-cons f (g x) (map g xs) ∙ ap (λ n. f (g x) + n) (mapped_sum f g xs)
    ∙ sym (sum_by-cons (λ x. f (g x)) x xs)

pub no_sum : {X : Type 0} (xs : List X) → sum_by (λ x. 0) xs ≡ 0
no_sum [] = refl
no_sum (x ∷ xs) = sum_by-cons (λ x. 0) x xs ∙ ap (λ n. 0 + n) (no_sum xs)

module _ (n : ℕ) where
  abbrev if_same : List (Option Value) → List (Option Value) → ℕ
  if_same keys mask = cond (are_same value_cmp keys mask) n 0

  -- after two keys that compare so
  after_keys : (o : Ordering) (keys : List (Option Value)) (all : List (List (Option Value)))
      → sum_by (if_same keys) all ≤ n
      → sum_by (λ mask. cond (is_eq (ordering_then o
      (slice_cmp (key_cmp value_cmp) keys mask))) n 0) all ≤ n
  after_keys it keys all h = grind (arith, no_sum all)

  either_mask : (f : List (Option Value) → ℕ) (k : Value) (ks : List Value)
      → sum_by f (masks (k ∷ ks)) ≡ sum_by (λ m. f (Some k ∷ m)) (masks ks)
      + sum_by (λ m. f (None ∷ m)) (masks ks)
  either_mask f k ks =
      sum_by-append f (map (λ m. Some k ∷ m) (masks ks)) (map (λ m. None ∷ m) (masks ks))
      ∙ (λ i. mapped_sum f (λ m. Some k ∷ m) (masks ks) i
      + mapped_sum f (λ m. None ∷ m) (masks ks) i)

  -- no two masks of some keys are the same
  same_masks : (keys : List (Option Value)) (ks : List Value) → sum_by (if_same keys) (masks ks) ≤ n
  same_masks [] [] = omega arith
  same_masks (key ∷ keys) [] = omega arith
  same_masks [] (k ∷ ks) =
      omega (arith, either_mask (if_same []) k ks, no_sum (masks ks))
  same_masks (None ∷ keys) (k ∷ ks) =
      omega (arith, either_mask (if_same (None ∷ keys)) k ks, no_sum (masks ks), same_masks keys ks)
  same_masks (Some j ∷ keys) (k ∷ ks) =
      omega (
        arith,
        either_mask (if_same (Some j ∷ keys)) k ks,
        no_sum (masks ks),
        after_keys (value_cmp j k) keys (masks ks) (same_masks keys ks),
      )

module _ (s : Shape) (keys : List (Option Value)) (index : ℕ) where
  added_reach : (group : GroupRow Value) → reach_at keys index (added s group) ≤ far index group
  added_reach group =
      let all = masks (as_row group).keys in
      let weigh = if_same (far index group) keys in
      omega (
        arith,
        mapped_sum (far_at keys index) (λ keys. record { keys = keys; totals = group.totals })
            (filter (is_grouping s) all),
        sum_by-filter_both (is_grouping s) (λ m. not (is_grouping s m)) (λ m. refl) weigh all,
        same_masks (far index group) keys (as_row group).keys,
      )

  pub all_added_reach : (groups : List (GroupRow Value))
      → reach_at keys index (all_added s groups) ≤ reach index groups
  all_added_reach [] = omega arith
  all_added_reach (group ∷ groups) =
      omega (
        arith,
        sum_by-append (far_at keys index) (added s group) (all_added s groups),
        added_reach group,
        all_added_reach groups,
        sum_by-cons (far index) group groups,
      )

-- ---- a group before others

module _ (group : GroupRow Value) where
  own_reach : (index : ℕ) → far_at group.keys index group ≡ far index group
  own_reach index =
      ap (λ b. cond b (far index group) 0) (same_itself value_cmp value_decides group.keys)

  pub small_alone : (gs : List Aggregate) (nothing : List (Option ℤ)) (rows : List (GroupRow Value))
      → nothing ≡ over_nothing gs → AreSmallByKeys (group ∷ rows) → AddUpSmall group.totals nothing
  small_alone gs nothing rows none small index =
      omega (
        arith,
        small group.keys index,
        own_reach index,
        sum_by-cons (far_at group.keys index) group rows,
        ap (distance_at index) none,
        nothing_distance gs 0 index,
      )

  pub small_joined : (last : GroupRow Value) (old front : List (GroupRow Value))
      → old ≡ front ++ last ∷ [] → are_same value_cmp group.keys last.keys ≡ true
      → AreSmallByKeys (group ∷ reverse old) → AddUpSmall group.totals last.totals
  small_joined last old front popped same small index =
      let turned = ap reverse popped ∙ reverse-append front (last ∷ []) in
      omega (
        arith,
        small group.keys index,
        own_reach index,
        sum_by-cons (far_at group.keys index) group (reverse old),
        ap (sum_by (far_at group.keys index)) turned,
        sum_by-cons (far_at group.keys index) last (reverse front),
        ap (λ b. cond b (far index last) 0) same,
      )

-- ---- all groups

pub small_rest : (gs : List Aggregate) (groups rest rest' merged : List (GroupRow Value))
    (group : GroupRow Value) → HasJoined gs groups rest merged → rest ≡ rest' ++ group ∷ []
    → AreSmallByKeys groups → AreSmallByKeys (group ∷ reverse merged)
small_rest gs groups rest rest' merged group h popped small keys index =
    let f = far_at keys index in
    omega (
      arith,
      small keys index,
      sum_by-cons f group (reverse merged),
      ap (sum_by f) h.joined,
      together_reach gs keys index h.done,
      ap (sum_by f) h.split,
      sum_by-append f rest h.done,
      ap (sum_by f) popped,
      sum_by_push f rest' group,
    )

pub small_moved : (groups sorted : List (GroupRow Value)) → IsPermutation groups sorted
    → AreSmallByKeys groups → AreSmallByKeys sorted
small_moved groups sorted moved small keys index =
    omega (arith, small keys index, sum_by-IsPermutation (far_at keys index) groups sorted moved)

pub no_farther : (gs : List Aggregate) (groups sorted merged : List (GroupRow Value))
    → IsPermutation groups sorted → reverse merged ≡ together value_cmp gs sorted
    → ReachNoFarther merged groups
no_farther gs groups sorted merged moved joined keys index =
    let f = far_at keys index in
    omega (
      arith,
      sum_by-IsPermutation f groups sorted moved,
      together_reach gs keys index sorted,
      ap (sum_by f) joined,
      sum_by-IsPermutation f merged (reverse merged) (IsPermutation-reverse merged),
    )

-- ---- groups that were told

at_most_one : (keys : List (Option Value)) (index : ℕ) (b : Bool) (group : GroupRow Value)
    → far index group ≡ 0 → sum_by (far_at keys index) (cond b (group ∷ []) []) ≤ 0
at_most_one keys index it group none = grind (arith, sum_by-cons (far_at keys index) group [])

pub nothing_reached : (s : Shape) (count : ℕ) (gs : List Aggregate) (keys : List (Option Value))
    (index : ℕ) → reach_at keys index (empty_total s count gs) ≤ reach index []
nothing_reached s count gs keys index =
    at_most_one keys index (is_grouping {K = Value} s (replicate count None))
    (record { keys = replicate count None; totals = over_nothing gs }) (nothing_distance gs 0 index)

pub reached_more : (s : Shape) (told more groups : List (GroupRow Value))
    → ((keys : List (Option Value)) (index : ℕ) → reach_at keys index groups ≤ reach index told)
    → (keys : List (Option Value)) (index : ℕ)
    → reach_at keys index (groups ++ all_added s more) ≤ reach index (told ++ more)
reached_more s told more groups within keys index =
    omega (
      arith,
      within keys index,
      sum_by-append (far_at keys index) groups (all_added s more),
      all_added_reach s keys index more,
      sum_by-append (far index) told more,
    )

pub small_within : (told groups : List (GroupRow Value))
    → ((keys : List (Option Value)) (index : ℕ) → reach_at keys index groups ≤ reach index told)
    → AreSmall told → AreSmallByKeys groups
small_within told groups within small keys index = omega (arith, within keys index, small index)

pub small_before : (told more : List (GroupRow Value)) → AreSmall (told ++ more) → AreSmall told
small_before told more small index =
    omega (arith, small index, sum_by-append (far index) told more)

pub small_after : (told more : List (GroupRow Value)) → AreSmall (told ++ more) → AreSmall more
small_after told more small index =
    omega (arith, small index, sum_by-append (far index) told more)
