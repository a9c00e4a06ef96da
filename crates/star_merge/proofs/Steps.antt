-- Steps of the code that merges groups.
use Rattle.std.{proofs.Common.{◌≡◌, ◌∙◌, ℕ, ◌+◌, ◌-◌, ◌<◌, ◌≤◌, Bool, true, false, List, [], ◌∷◌, ◌++◌, Option, Some, None, append_assoc, arith, cond, drop, get_or, length, map, min, refl, sym, subst, ap, take, true≢false}, proofs.lemmas.List.{append-nil, map-append, reverse-append, reverse-reverse, drop_min, take-append-drop, take_min, take_more, take_rest}, proofs.lemmas.Grind.flat_map-append, proofs.lemmas.List.Sorted.IsPermutation-reverse, specs.Prelude.{ℤ, reverse}, specs.List.flat_map, specs.List.Sorted.{IsPermutation, IsSortedBy}, specs.Option.{is_some, option_to_list}, specs.Ordering.is_lt}
use Rattle.star_schema.specs.{declared.group.Aggregate.Aggregate, declared.group.GroupColumn.GroupColumn, declared.group.Shape.Shape, declared.group.SortKey.SortKey, Groups.GroupRow, Groups.aggregate, Groups.is_grouping, Groups.totals_from, Order.value_cmp, Tables.Value}
use Rattle.star_program.specs.{declared.outcome.Cell.Cell, RowCells.cell_of}
use Rattle.star_merge_laws.{specs.Merging.merged_totals, specs.Regrouping.{added, all_added, are_same}, proofs.Regrouping.added_up, proofs.Values.value_decides}
use Rattle.star_merge.{specs.Private.Adding.{AddUpAlike, AreSums, HasJoined, HasMerged, addends, alone, empty_total, masked, onto, over_nothing, reach_at, together}, specs.declared.merging.Merging.Merging, specs.Cells.{group_of, key_of, total_of}, specs.Merged.{AreOfShape, AreSmall, IsMergedRows, reach}, specs.Private.RowOrder.row_order, proofs.Alike.{alike_append, alike_itself, alike_reordered, alike_sym, alike_trans, sums_alike, sums_reordered}, proofs.Addends.{added_up_by_sums, masked_more}, proofs.Nulls.same_nulls, proofs.Rising.sums_of_sorted, proofs.RowOrders.{in_order, keys_total}, proofs.Small.{reached_more, small_before}}

-- ---- aggregates over no rows

nothing_mapped : (gs : List Aggregate) (index : ℕ)
    → totals_from {K = Value} gs index [] ≡ map (λ g. aggregate g []) gs
nothing_mapped [] index = refl
nothing_mapped (g ∷ gs) index = ap (λ ts. aggregate g [] ∷ ts) (nothing_mapped gs (index + 1))

pub nothing_is : (gs : List Aggregate) → map (λ g. aggregate g []) gs ≡ over_nothing gs
nothing_is gs = sym (nothing_mapped gs 0)

-- ---- neighbours

pub joined_none : (gs : List Aggregate) (groups merged : List (GroupRow Value)) → merged ≡ []
    → HasJoined gs groups groups merged
joined_none gs groups merged none =
    record { done = []; split = sym (append-nil groups); joined = ap reverse none }

pub joined_more : (gs : List Aggregate) (groups rest rest' merged merged' : List (GroupRow Value))
    (group : GroupRow Value) → HasJoined gs groups rest merged → rest ≡ rest' ++ group ∷ []
    → reverse merged' ≡ onto value_cmp gs group (reverse merged) → HasJoined gs groups rest' merged'
joined_more gs groups rest rest' merged merged' group h popped pushed = record {
  done = group ∷ h.done;
  split = h.split ∙ ap (λ xs. xs ++ h.done) popped ∙ append_assoc rest' (group ∷ []) h.done;
  joined = pushed ∙ ap (onto value_cmp gs group) h.joined;
}

pub joined_all : (gs : List Aggregate) (groups rest merged : List (GroupRow Value))
    → HasJoined gs groups rest merged → length rest ≡ 0
    → reverse merged ≡ together value_cmp gs groups
joined_all gs groups [] merged h none = h.joined ∙ ap (together value_cmp gs) (sym h.split)
joined_all gs groups (group ∷ rest) merged h none = absurd (omega (arith, none))

pub sums_of_moved : (gs : List Aggregate) (groups sorted merged : List (GroupRow Value))
    → IsPermutation groups sorted → IsSortedBy (λ a b. is_lt (row_order [] a b)) sorted
    → reverse merged ≡ together value_cmp gs sorted → AreSums value_cmp gs groups merged
sums_of_moved gs groups sorted merged moved up joined =
    let back = subst (IsPermutation (reverse merged)) (reverse-reverse merged)
    (IsPermutation-reverse (reverse merged)) in
    sums_alike value_cmp value_decides gs sorted groups merged
    (alike_sym value_cmp value_decides gs groups sorted
    (alike_reordered value_cmp value_decides gs groups sorted moved))
    (sums_reordered value_cmp value_decides gs sorted (reverse merged) merged back
    (subst (AreSums value_cmp gs sorted) (sym joined)
    (sums_of_sorted value_cmp value_decides keys_total gs sorted up)))

-- ---- groupings

pub masked_last : (s : Shape) (totals : List (Option ℤ)) (first : List (Option Value))
    → masked s totals first []
    ≡ cond (is_grouping s first) (record { keys = first; totals = totals } ∷ []) []
masked_last s totals first =
    by (is_grouping s (first ++ []))
    ∙ ap (λ ks. cond (is_grouping s ks) (record { keys = ks; totals = totals } ∷ []) [])
    (append-nil first)
  where
    by : (b : Bool)
        → map {B = GroupRow Value} (λ more. record { keys = first ++ more; totals = totals })
        (cond b ([] ∷ []) [])
        ≡ cond b (record { keys = first ++ []; totals = totals } ∷ []) []
    by true = refl
    by false = refl

pub masked_shown : (s : Shape) (totals : List (Option ℤ)) (first : List (Option Value))
    (k : Option Value) (keys : List (Option Value)) → is_some k ≡ true
    → masked s totals (first ++ k ∷ []) (flat_map option_to_list keys)
    ++ masked s totals (first ++ None ∷ []) (flat_map option_to_list keys)
    ≡ masked s totals first (flat_map option_to_list (k ∷ keys))
masked_shown s totals first None keys h = absurd (true≢false (sym h))
masked_shown s totals first (Some k) keys h =
    sym (masked_more s totals first k (flat_map option_to_list keys))

pub masked_hidden : (k : Option Value) (keys : List (Option Value)) → is_some k ≡ false
    → flat_map option_to_list (k ∷ keys) ≡ flat_map option_to_list keys
masked_hidden None keys h = refl
masked_hidden (Some k) keys h = absurd (true≢false h)

-- ---- rows

pub rows_more : (s : Shape) (count : ℕ) (rows : List (List Cell)) (i : ℕ) → i < length rows
    → all_added s (map (group_of count) (take (i + 1) rows))
    ≡ all_added s (map (group_of count) (take i rows))
    ++ added s (group_of count (get_or rows i []))
rows_more s count rows i within =
    ap (λ xs. all_added s (map (group_of count) xs)) (take_more rows i [] within)
    ∙ ap (all_added s) (map-append (group_of count) (take i rows) (get_or rows i [] ∷ []))
    ∙ flat_map-append (added s) (map (group_of count) (take i rows))
    (group_of count (get_or rows i []) ∷ [])
    ∙ ap (λ xs. all_added s (map (group_of count) (take i rows)) ++ xs)
    (append-nil (added s (group_of count (get_or rows i []))))

-- what one more element gives
pub flat_more : {X Y : Type 0} (f : X → List Y) (xs : List X) (i : ℕ) (x : X) → i < length xs
    → x ≡ get_or xs i x → flat_map f (take (i + 1) xs) ≡ flat_map f (take i xs) ++ f x
flat_more f xs i x within is =
    ap (flat_map f) (take_more xs i x within) ∙ flat_map-append f (take i xs) (get_or xs i x ∷ [])
    ∙ ap (λ ys. flat_map f (take i xs) ++ ys) (append-nil (f (get_or xs i x)) ∙ ap f (sym is))

-- ---- all groups that were told

alike_more : (s : Shape) (count : ℕ) (gs : List Aggregate)
    (told more groups : List (GroupRow Value))
    → AddUpAlike value_cmp gs groups (addends s count gs told)
    → AddUpAlike value_cmp gs (groups ++ all_added s more) (addends s count gs (told ++ more))
alike_more s count gs told more groups h =
    subst (AddUpAlike value_cmp gs (groups ++ all_added s more))
    (append_assoc (empty_total s count gs) (all_added s told) (all_added s more)
    ∙ ap (λ xs. empty_total s count gs ++ xs) (sym (flat_map-append (added s) told more)))
    (alike_append value_cmp value_decides gs groups (addends s count gs told) (all_added s more)
    (all_added s more) h (alike_itself value_cmp value_decides gs (all_added s more)))

-- and groups that were added
pub merged_more : (s : Shape) (count : ℕ) (gs : List Aggregate) (told more : List (GroupRow Value))
    (before after : Merging) → HasMerged s count gs told before → after.shape ≡ before.shape
    → after.count ≡ before.count → after.aggregates.items ≡ before.aggregates.items
    → after.groups.items ≡ before.groups.items ++ all_added s more
    → HasMerged s count gs (told ++ more) after
merged_more s count gs told more before after h shape keys aggregates pushed = record {
  by_shape = shape ∙ h.by_shape;
  count = keys ∙ h.count;
  aggregates = aggregates ∙ h.aggregates;
  alike = subst (λ xs. AddUpAlike value_cmp gs xs (addends s count gs (told ++ more))) (sym pushed)
      (alike_more s count gs told more before.groups.items h.alike);
  within = subst (λ xs. (keys : List (Option Value)) (index : ℕ)
      → reach_at keys index xs ≤ reach index (told ++ more)) (sym pushed)
      (reached_more s told more before.groups.items h.within);
}

-- groups that were told so far, of all
pub small_so_far : {X : Type 0} (f : X → List (GroupRow Value)) (xs : List X) (i : ℕ) (x : X)
    (groups : List (GroupRow Value)) → i < length xs → x ≡ get_or xs i x → groups ≡ flat_map f xs
    → AreSmall groups → AreSmall (flat_map f (take i xs) ++ f x)
small_so_far f xs i x groups within is told small =
    subst AreSmall (flat_more f xs i x within is)
    (small_before (flat_map f (take (i + 1) xs)) (flat_map f (drop (i + 1) xs))
    (subst AreSmall (told ∙ ap (flat_map f) (sym (take-append-drop (i + 1) xs))
    ∙ flat_map-append f (take (i + 1) xs) (drop (i + 1) xs)) small))

pub alike_none : (s : Shape) (count : ℕ) (gs : List Aggregate)
    → AddUpAlike value_cmp gs (empty_total s count gs) (addends s count gs [])
alike_none s count gs =
    subst (AddUpAlike value_cmp gs (empty_total s count gs))
    (sym (append-nil (empty_total s count gs)))
    (alike_itself value_cmp value_decides gs (empty_total s count gs))

pub alike_sums : (s : Shape) (count : ℕ) (gs : List Aggregate)
    (told groups sums : List (GroupRow Value))
    → AddUpAlike value_cmp gs groups (addends s count gs told) → AreSums value_cmp gs groups sums
    → AddUpAlike value_cmp gs sums (addends s count gs told)
alike_sums s count gs told groups sums h is =
    alike_trans value_cmp value_decides gs sums groups (addends s count gs told) is.alike h

-- sorted sums are the merged rows
pub merged_rows : (s : Shape) (count : ℕ) (gs : List Aggregate) (sorts : List SortKey)
    (items : List GroupColumn) (told groups sums sorted : List (GroupRow Value))
    (rows : List (List Cell)) → AreOfShape count gs told
    → AddUpAlike value_cmp gs groups (addends s count gs told) → AreSums value_cmp gs groups sums
    → IsPermutation sums sorted → IsSortedBy (λ a b. is_lt (row_order sorts a b)) sorted
    → rows ≡ map (λ group. map (cell_of group) items) sorted
    → IsMergedRows s count gs sorts items told rows
merged_rows s count gs sorts items told groups sums sorted rows shaped alike is moved up cells =
    let own = sums_reordered value_cmp value_decides gs (addends s count gs told) sums sorted moved
    (sums_alike value_cmp value_decides gs groups (addends s count gs told) sums alike is) in
    record {
      groups = sorted;
      merged = added_up value_cmp value_decides s count gs told sorted
          (added_up_by_sums value_cmp value_decides s count gs told sorted own);
      in_order = in_order sorts sorted up own.apart
          (same_nulls s count gs told sorted shaped own);
      cells = cells;
    }

-- ---- a group before the last one

abbrev joins : List Aggregate → GroupRow Value → GroupRow Value → GroupRow Value
joins gs group next =
    record { keys = group.keys; totals = merged_totals gs group.totals next.totals }

reverse_push : (groups : List (GroupRow Value)) (group : GroupRow Value)
    → reverse (groups ++ group ∷ []) ≡ group ∷ reverse groups
reverse_push groups group = reverse-append groups (group ∷ [])

pub pushed_none : (gs : List Aggregate) (old new : List (GroupRow Value))
    (group merged : GroupRow Value)
    → old ≡ [] → new ≡ old ++ merged ∷ []
    → merged ≡ record {
      keys = group.keys;
      totals =
          merged_totals gs group.totals (over_nothing gs);
    }
    → reverse new ≡ onto value_cmp gs group (reverse old)
pushed_none gs old new group merged none pushed is =
    ap reverse (pushed ∙ ap (λ xs. xs ++ merged ∷ []) none) ∙ ap (λ m. m ∷ []) is
    ∙ ap (λ xs. onto value_cmp gs group (reverse xs)) (sym none)

module _ (gs : List Aggregate) (old new front : List (GroupRow Value))
    (group last merged : GroupRow Value)
    (popped : old ≡ front ++ last ∷ []) where
  turned : onto value_cmp gs group (last ∷ reverse front) ≡ onto value_cmp gs group (reverse old)
  turned = ap (onto value_cmp gs group) (sym (reverse_push front last) ∙ ap reverse (sym popped))

  pub pushed_same : are_same value_cmp group.keys last.keys ≡ true
      → merged ≡ record { keys = group.keys; totals = merged_totals gs group.totals last.totals }
      → new ≡ front ++ merged ∷ [] → reverse new ≡ onto value_cmp gs group (reverse old)
  pushed_same same is pushed =
      ap reverse pushed ∙ reverse_push front merged ∙ ap (λ m. m ∷ reverse front) is
      ∙ sym (ap (λ b. cond b (joins gs group last ∷ reverse front)
      (alone gs group ∷ last ∷ reverse front)) same)
      ∙ turned

  pub pushed_other : are_same value_cmp group.keys last.keys ≡ false
      → merged ≡ record {
        keys = group.keys;
        totals =
            merged_totals gs group.totals (over_nothing gs);
      }
      → new ≡ (front ++ last ∷ []) ++ merged ∷ []
      → reverse new ≡ onto value_cmp gs group (reverse old)
  pushed_other differ is pushed =
      ap reverse pushed ∙ reverse_push (front ++ last ∷ []) merged
      ∙ (λ i. is i ∷ reverse_push front last i)
      ∙ sym (ap (λ b. cond b (joins gs group last ∷ reverse front)
      (alone gs group ∷ last ∷ reverse front)) differ)
      ∙ turned

-- a list by its first element and the others, as a pattern has them
first_and_others : {X : Type 0} (xs : List X) (d : X) → 1 ≤ length xs
    → get_or xs 0 d ∷ take (length xs - 1) (drop 1 xs) ≡ xs
first_and_others [] d h = absurd (omega (arith, h))
first_and_others (x ∷ xs) d h = ap (λ ys. x ∷ ys) (take_rest (x ∷ xs) 1)

-- the groupings that show the first key, and those that hide it
pub pushed_groupings : (s : Shape) (totals : List (Option ℤ)) (first shown hidden keys : List Cell)
    (key : Cell) (old some all : List (GroupRow Value)) → 1 ≤ length keys → key ≡ get_or keys 0 key
    → is_some (key_of key) ≡ true → map key_of shown ≡ map key_of first ++ key_of key ∷ []
    → map key_of hidden ≡ map key_of first ++ None ∷ []
    → some ≡ old ++ masked s totals (map key_of shown)
    (flat_map option_to_list (map key_of (take (length keys - 1) (drop 1 keys))))
    → all ≡ some ++ masked s totals (map key_of hidden)
    (flat_map option_to_list (map key_of (take (length keys - 1) (drop 1 keys))))
    → all ≡ old ++ masked s totals (map key_of first) (flat_map option_to_list (map key_of keys))
pushed_groupings s totals first shown hidden keys key old some all many is shows with_key with_all
    pushed more =
    let rest = map key_of (take (length keys - 1) (drop 1 keys)) in
    let split : map key_of keys ≡ key_of key ∷ rest =
    ap (map key_of) (sym (first_and_others keys key many)) ∙ ap (λ k. key_of k ∷ rest) (sym is) in
    more
    ∙ (λ i. pushed i ++ masked s totals (with_all i) (flat_map option_to_list rest))
    ∙ append_assoc old (masked s totals (map key_of shown) (flat_map option_to_list rest))
    (masked s totals (map key_of first ++ None ∷ []) (flat_map option_to_list rest))
    ∙ (λ i. old ++ (masked s totals (with_key i) (flat_map option_to_list rest)
    ++ masked s totals (map key_of first ++ None ∷ []) (flat_map option_to_list rest)))
    ∙ ap (λ xs. old ++ xs) (masked_shown s totals (map key_of first) (key_of key) rest shows)
    ∙ ap (λ ks. old ++ masked s totals (map key_of first) (flat_map option_to_list ks)) (sym split)

-- a row's groupings
pub row_groupings : (s : Shape) (count n : ℕ) (row front back first : List Cell)
    (totals : List (Option ℤ)) → n ≡ min count (length row) → front ≡ take n row → back ≡ drop n row
    → totals ≡ map total_of back → first ≡ []
    → masked s totals (map key_of first) (flat_map option_to_list (map key_of front))
    ≡ added s (group_of count row)
row_groupings s count n row front back first totals n_is front_is back_is totals_are none =
    (λ i. masked s (totals_are i) (map key_of (none i))
    (flat_map option_to_list (map key_of (front_is i))))
    ∙ (λ i. masked s (map total_of (back_is i)) []
    (flat_map option_to_list (map key_of (take (n_is i) row))))
    ∙ (λ i. masked s (map total_of (drop (n_is i) row)) []
    (flat_map option_to_list (map key_of (take_min count row i))))
    ∙ (λ i. masked s (map total_of (drop_min count row i)) []
    (flat_map option_to_list (map key_of (take count row))))
