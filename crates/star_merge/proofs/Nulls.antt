-- Merged groups have the same NULLs.
use Rattle.std.{proofs.Common.{◌≡◌, ◌∙◌, ◌||◌, ℕ, zero, suc, ◌+◌, Bool, true, false, List, [], ◌∷◌, Option, Some, None, cond, length, map, refl, sym, subst, ap, inl, inr, ⊎_elim, true≢false, arith, IsTrue}, proofs.lemmas.List.Elements.{All-append, All-contains, All-filter, All-head, All-map, All-nil, All-tail}, proofs.lemmas.Bool.or_cases, proofs.lemmas.List.length-map, proofs.lemmas.List.Folds.list_any-append, specs.Prelude.{ℤ, filter, replicate}, specs.List.{All, Contains, flat_map}, specs.Option.{is_some, option_to_list}}
use Rattle.star_common.proofs.Members.{contains_here, contains_none, from_contains_map}
use Rattle.star_schema.specs.{Groups.{Entry, GroupRow, IsMasked, is_grouping, totals_from}, declared.group.Aggregate.Aggregate, declared.group.Shape.Shape, Order.value_cmp, Tables.Value}
use Rattle.star_merge_laws.{specs.Merging.{as_row, merged, merged_totals, total_over}, specs.Regrouping.{added, all_added, are_same}, proofs.Regrouping.{added_group, group_added}, proofs.Values.value_decides}
use Rattle.star_program.specs.Puts.{masks}
use Rattle.star_merge.{specs.Private.Adding.{AreSums, addends, empty_total, is_there, total_at}, specs.Merged.{AreOfShape, IsFull}, specs.Private.RowOrder.numbers_in, proofs.Addends.{at_empty, there_empty}, proofs.Alike.{from_there, to_there, totals_of_sum}}

abbrev full : List Aggregate → List Bool
full gs = map (λ g. true) gs

-- ---- totals of groups of rows

some_merged : (g : Aggregate) (x y : Option ℤ) → is_some x ≡ true → is_some (merged g x y) ≡ true
some_merged g None y h = absurd (true≢false (sym h))
some_merged g (Some x) None h = refl
some_merged g (Some x) (Some y) h = refl

abbrev head_of : List Bool → Bool
head_of [] = false
head_of (b ∷ bs) = b

abbrev tail_of : List Bool → List Bool
tail_of [] = []
tail_of (b ∷ bs) = bs

numbers_merged : (gs : List Aggregate) (xs ys : List (Option ℤ)) → map is_some xs ≡ full gs
    → length ys ≡ length gs → map is_some (merged_totals gs xs ys) ≡ full gs
numbers_merged [] xs ys h e = refl
numbers_merged (g ∷ gs) [] ys h e = absurd (true≢false (sym (ap head_of h)))
numbers_merged (g ∷ gs) (x ∷ xs) [] h e = absurd (omega (arith, e))
numbers_merged (g ∷ gs) (x ∷ xs) (y ∷ ys) h e =
    λ i. some_merged g x y (ap head_of h) i
    ∷ numbers_merged gs xs ys (ap tail_of h) (omega (arith, e)) i

length_merged : (gs : List Aggregate) (xs ys : List (Option ℤ)) → length xs ≡ length gs
    → length ys ≡ length gs → length (merged_totals gs xs ys) ≡ length gs
length_merged [] xs ys h e = refl
length_merged (g ∷ gs) [] ys h e = absurd (omega (arith, h))
length_merged (g ∷ gs) (x ∷ xs) [] h e = absurd (omega (arith, e))
length_merged (g ∷ gs) (x ∷ xs) (y ∷ ys) h e =
    ap suc (length_merged gs xs ys (omega (arith, h)) (omega (arith, e)))

length_none : (gs : List Aggregate) (index : ℕ)
    → length (totals_from {K = Value} gs index []) ≡ length gs
length_none [] index = refl
length_none (g ∷ gs) index = ap suc (length_none gs (index + 1))

abbrev HasNumbers : List Aggregate → GroupRow Value → Type 0
HasNumbers gs row = numbers_in row ≡ full gs

as_long : (gs : List Aggregate) (row : GroupRow Value) → HasNumbers gs row
    → length row.totals ≡ length gs
as_long gs row h =
    sym (length-map row.totals is_some) ∙ ap length h ∙ length-map gs (λ g. true)

length_over : (gs : List Aggregate) (rows : List (GroupRow Value)) → All (HasNumbers gs) rows
    → length (total_over gs rows) ≡ length gs
length_over gs [] all = length_none gs 0
length_over gs (row ∷ rows) all =
    length_merged gs row.totals (total_over gs rows)
    (as_long gs row (All-head (HasNumbers gs) row rows all))
    (length_over gs rows (All-tail (HasNumbers gs) row rows all))

-- merged totals of some rows, at least one
numbers_over : (gs : List Aggregate) (keys : List (Option Value)) (rows : List (GroupRow Value))
    → All (HasNumbers gs) rows → is_there value_cmp keys rows ≡ true
    → map is_some (total_at value_cmp gs keys rows) ≡ full gs
numbers_over gs keys [] all found = absurd (true≢false (sym found))
numbers_over gs keys (row ∷ rows) all found =
    by (are_same value_cmp keys row.keys) refl
    (numbers_over gs keys rows (All-tail (HasNumbers gs) row rows all))
  where
    by : (b : Bool) → are_same value_cmp keys row.keys ≡ b
        → (is_there value_cmp keys rows ≡ true
        → map is_some (total_at value_cmp gs keys rows) ≡ full gs)
        → map is_some (total_over gs (cond b (row
        ∷ filter (λ r. are_same value_cmp keys r.keys) rows)
        (filter (λ r. are_same value_cmp keys r.keys) rows))) ≡ full gs
    by true e later =
        numbers_merged gs row.totals (total_at value_cmp gs keys rows)
        (All-head (HasNumbers gs) row rows all)
        (length_over gs (filter (λ r. are_same value_cmp keys r.keys) rows)
        (All-filter (λ r. are_same value_cmp keys r.keys) (HasNumbers gs) rows
        (All-tail (HasNumbers gs) row rows all)))
    by false e later =
        later (sym (ap (λ b. b || is_there value_cmp keys rows) e) ∙ found)

-- ---- what groups of rows add

module _ (s : Shape) (count : ℕ) (gs : List Aggregate) where
  abbrev none : List (Option Value)
  none = replicate count None

  all_numbers : (groups : List (GroupRow Value)) → All (IsFull count gs) groups
      → All (HasNumbers gs) (all_added s groups)
  all_numbers [] all = All-nil (HasNumbers gs)
  all_numbers (group ∷ groups) all =
      All-append (HasNumbers gs) (added s group) (all_added s groups)
      (All-map (HasNumbers gs) (λ keys. record { keys = keys; totals = group.totals })
      (filter (is_grouping s) (masks (as_row group).keys))
      (λ k d within. (All-head (IsFull count gs) group groups all).totals))
      (all_numbers groups (All-tail (IsFull count gs) group groups all))

  all_rolled_up : (n : ℕ) (keys : List (Option Value)) → map is_some keys ≡ replicate n true
      → IsMasked (replicate n None) (flat_map option_to_list keys)
  all_rolled_up zero [] h = tt
  all_rolled_up zero (k ∷ keys) h = absurd (omega (arith, ap length h))
  all_rolled_up (suc n) [] h = absurd (omega (arith, ap length h))
  all_rolled_up (suc n) (None ∷ keys) h = absurd (true≢false (sym (ap head_of h)))
  all_rolled_up (suc n) (Some k ∷ keys) h = all_rolled_up n keys (ap tail_of h)

  -- the sums of groups of rows
  sum_numbers : (group : GroupRow Value) (groups sums : List (GroupRow Value))
      → All (IsFull count gs) (group ∷ groups)
      → AreSums value_cmp gs (addends s count gs (group ∷ groups)) sums
      → (row : GroupRow Value) → Contains sums row → HasNumbers gs row
  sum_numbers group groups sums all h row c =
      ap (map is_some) (totals_of_sum value_cmp value_decides gs
      (addends s count gs (group ∷ groups)) sums h row c
      ∙ at_empty value_cmp value_decides s count gs row.keys (all_added s (group ∷ groups)))
      ∙ numbers_over gs row.keys (all_added s (group ∷ groups))
      (all_numbers (group ∷ groups) all) found
    where
      of_none : IsTrue (is_grouping s none)
          → is_there value_cmp none (all_added s (group ∷ groups)) ≡ true
      of_none is =
          let more = group_added value_cmp value_decides s (group ∷ groups) none (as_row group) is
          (contains_here (as_row group) (map as_row groups))
          (all_rolled_up count group.keys (All-head (IsFull count gs) group groups all).keys) in
          ap (λ ks. is_there value_cmp ks (all_added s (group ∷ groups))) (sym more.2)
          ∙ to_there value_cmp value_decides more.0 (all_added s (group ∷ groups)) more.1

      found : is_there value_cmp row.keys (all_added s (group ∷ groups)) ≡ true
      found = ⊎_elim {C = is_there value_cmp row.keys (all_added s (group ∷ groups)) ≡ true}
          (λ e. let is = there_empty value_cmp value_decides s count gs row.keys e in
          ap (λ ks. is_there value_cmp ks (all_added s (group ∷ groups))) is.1 ∙ of_none is.0)
          (λ e. e)
          (or_cases (is_there value_cmp row.keys (empty_total s count gs))
          (is_there value_cmp row.keys (all_added s (group ∷ groups)))
          (sym (list_any-append (λ r. are_same value_cmp row.keys r.keys) (empty_total s count gs)
          (all_added s (group ∷ groups))) ∙ sym (h.alike.keys row.keys)
          ∙ to_there value_cmp value_decides row sums c))

  -- rows that all have the same keys
  module _ (told sums : List (GroupRow Value))
      (h : AreSums value_cmp gs (addends s count gs told) sums)
      (only : (more : GroupRow Value) → Contains (all_added s told) more → more.keys ≡ none) where
    only_key : (row : GroupRow Value) → Contains sums row → row.keys ≡ none
    only_key row c = ⊎_elim {C = row.keys ≡ none}
        (λ e. (there_empty value_cmp value_decides s count gs row.keys e).1)
        (λ e. let more = from_there value_cmp value_decides row.keys (all_added s told) e in
        sym more.2 ∙ only more.0 more.1)
        (or_cases (is_there value_cmp row.keys (empty_total s count gs))
        (is_there value_cmp row.keys (all_added s told))
        (sym (list_any-append (λ r. are_same value_cmp row.keys r.keys) (empty_total s count gs)
        (all_added s told)) ∙ sym (h.alike.keys row.keys)
        ∙ to_there value_cmp value_decides row sums c))

    one_key : (a b : GroupRow Value) → Contains sums a → Contains sums b
        → numbers_in a ≡ numbers_in b
    one_key a b in_a in_b = ap (map is_some)
        (totals_of_sum value_cmp value_decides gs (addends s count gs told) sums h a in_a
        ∙ ap (λ ks. total_at value_cmp gs ks (addends s count gs told))
        (only_key a in_a ∙ sym (only_key b in_b))
        ∙ sym (totals_of_sum value_cmp value_decides gs (addends s count gs told) sums h b in_b))

no_keys : (s : Shape) (told : List (GroupRow Value)) (gs : List Aggregate)
    → All (λ (group : GroupRow Value). group.keys ≡ []) told → (more : GroupRow Value)
    → Contains (all_added s told) more → more.keys ≡ []
no_keys s told gs empty more c =
    ⊎_elim {C = more.keys ≡ []}
    (λ row. let from = from_contains_map as_row told row.0 row.1 in
    masked_none more.keys (subst (λ ks. IsMasked more.keys (flat_map option_to_list ks))
    (All-contains (λ (group : GroupRow Value). group.keys ≡ []) told from.0 empty from.1)
    (subst (λ (r : Entry Value). IsMasked more.keys r.keys) (sym from.2) row.2)))
    (λ none. none)
    (added_group value_cmp value_decides s 0 told more c).1
  where
    masked_none : (ks : List (Option Value)) → IsMasked ks [] → ks ≡ []
    masked_none [] h = refl
    masked_none (None ∷ ks) h = absurd h
    masked_none (Some k ∷ ks) h = absurd h

-- the sums of groups of rows, or of groups by no key, have the same NULLs
pub same_nulls : (s : Shape) (count : ℕ) (gs : List Aggregate) (told sums : List (GroupRow Value))
    → AreOfShape count gs told → AreSums value_cmp gs (addends s count gs told) sums
    → (a b : GroupRow Value) → Contains sums a → Contains sums b → numbers_in a ≡ numbers_in b
same_nulls s count gs told sums (inl by_none) h =
    one_key s count gs told sums h
    (λ more c. no_keys s told gs by_none.1 more c ∙ ap (λ n. replicate n None) (sym by_none.0))
same_nulls s count gs [] sums (inr all) h =
    one_key s count gs [] sums h (λ more c. absurd (contains_none more c))
same_nulls s count gs (group ∷ groups) sums (inr all) h = λ a b in_a in_b.
    sum_numbers s count gs group groups sums all h a in_a
    ∙ sym (sum_numbers s count gs group groups sums all h b in_b)
