-- Sums of all that plain groups add are merged groups.
use Rattle.std.{proofs.Common.{◌≡◌, ◌∙◌, ◌⊎◌, ℕ, Bool, true, false, ◌||◌, List, [], ◌∷◌, ◌++◌, Option, Some, None, cond, map, refl, sym, subst, ap, inl, inr, ⊎_elim, true≢false, IsTrue}, proofs.lemmas.Bool.{or_cases, or_left}, proofs.lemmas.List.{append_assoc, map-append}, proofs.lemmas.List.Elements.{Contains-append_right, filter-append}, proofs.lemmas.List.Folds.list_any-append, specs.Prelude.{ℤ, filter, replicate}, specs.Bool.Decides, specs.List.Contains, specs.Ordering.is_eq, specs.declared.cmp.Ordering.Ordering}
use Rattle.star_schema.specs.{declared.group.Aggregate.Aggregate, declared.group.Shape.Shape, Groups.GroupRow, Groups.is_grouping, Groups.totals_of}
use Rattle.star_merge_laws.{specs.Merging.total_over, specs.Regrouping.{AreAddedUp, all_added, are_same}, proofs.Regrouping.{filter_mapped, keys_are}}
use Rattle.star_program.specs.Puts.{masks}
use Rattle.star_merge.{specs.Private.Adding.{AreSums, addends, empty_total, is_there, masked, total_at}, proofs.Adding.nothing_added, proofs.Alike.{from_there, same_itself, to_there, totals_of_sum}}

-- ---- groupings of keys

pub map_twice : {X Y Z : Type 0} (f : X → Y) (g : Y → Z) (xs : List X)
    → map g (map f xs) ≡ map (λ x. g (f x)) xs
map_twice f g [] = refl
map_twice f g (x ∷ xs) = ap (λ ys. g (f x) ∷ ys) (map_twice f g xs)

module _ {K : Type 0} (s : Shape) (totals : List (Option ℤ)) where
  -- with one key more, shown or hidden
  half : (first : List (Option K)) (k : Option K) (keys : List K)
      → map (λ more. record { keys = first ++ more; totals = totals })
      (filter (λ more. is_grouping s (first ++ more)) (map (λ m. k ∷ m) (masks keys)))
      ≡ masked s totals (first ++ k ∷ []) keys
  half first k keys =
      ap (map (λ more. record { keys = first ++ more; totals = totals }))
      (filter_mapped (λ more. is_grouping s (first ++ more)) (λ m. k ∷ m) (masks keys))
      ∙ map_twice (λ m. k ∷ m) (λ more. record { keys = first ++ more; totals = totals })
      (filter (λ m. is_grouping s (first ++ k ∷ m)) (masks keys))
      ∙ (λ i. map (λ m. record { keys = sym (append_assoc first (k ∷ []) m) i; totals = totals })
      (filter (λ m. is_grouping s (sym (append_assoc first (k ∷ []) m) i)) (masks keys)))

  pub masked_more : (first : List (Option K)) (k : K) (keys : List K)
      → masked s totals first (k ∷ keys)
      ≡ masked s totals (first ++ Some k ∷ []) keys ++ masked s totals (first ++ None ∷ []) keys
  masked_more first k keys =
      ap (map (λ more. record { keys = first ++ more; totals = totals }))
      (filter-append (λ more. is_grouping s (first ++ more)) (map (λ m. Some k ∷ m) (masks keys))
      (map (λ m. None ∷ m) (masks keys)))
      ∙ map-append (λ more. record { keys = first ++ more; totals = totals })
      (filter (λ more. is_grouping s (first ++ more)) (map (λ m. Some k ∷ m) (masks keys)))
      (filter (λ more. is_grouping s (first ++ more)) (map (λ m. None ∷ m) (masks keys)))
      ∙ (λ i. half first (Some k) keys i ++ half first None keys i)

-- ---- sums of addends

module _ {K : Type 0} (cmp : K → K → Ordering)
    (decides : (a b : K) → Decides (is_eq (cmp a b)) (a ≡ b)) (s : Shape) (count : ℕ)
    (gs : List Aggregate) where
  abbrev nothing : List (Option ℤ)
  nothing = totals_of {K = K} gs []

  abbrev none : List (Option K)
  none = replicate count None

  pub at_empty : (keys : List (Option K)) (rows : List (GroupRow K))
      → total_at cmp gs keys (empty_total s count gs ++ rows) ≡ total_at cmp gs keys rows
  at_empty keys rows = by (is_grouping s none)
    where
      first : (b : Bool) (more : List (GroupRow K))
          → total_over gs (cond b (record { keys = none; totals = nothing } ∷ more) more)
          ≡ total_over gs more
      first true more = nothing_added gs more
      first false more = refl

      by : (b : Bool) → total_at cmp gs keys
          (cond b (record { keys = none; totals = nothing } ∷ []) [] ++ rows)
          ≡ total_at cmp gs keys rows
      by true = first (are_same cmp keys none) (filter (λ row. are_same cmp keys row.keys) rows)
      by false = refl

  pub there_empty : (keys : List (Option K)) → is_there cmp keys (empty_total s count gs) ≡ true
      → IsTrue (is_grouping s none) × (keys ≡ none)
  there_empty keys h = by (is_grouping s none) refl h
    where
      by : (b : Bool) → is_grouping s none ≡ b
          → is_there cmp keys (cond b (record { keys = none; totals = nothing } ∷ []) []) ≡ true
          → IsTrue (is_grouping s none) × (keys ≡ none)
      by true e found = (
        e,
        keys_are cmp decides keys none (⊎_elim {C = are_same cmp keys none ≡ true} (λ is. is)
            (λ never. absurd (true≢false (sym never)))
            (or_cases (are_same cmp keys none) false found)),
      )
      by false e found = absurd (true≢false (sym found))

  pub added_up_by_sums : (groups sums : List (GroupRow K))
      → AreSums cmp gs (addends s count gs groups) sums → AreAddedUp cmp s count gs groups sums
  added_up_by_sums groups sums h = record {
    each = λ group c. (
      made group (sym (h.alike.keys group.keys) ∙ to_there cmp decides group sums c),
      totals_of_sum cmp decides gs (addends s count gs groups) sums h group c
          ∙ at_empty group.keys (all_added s groups),
    );
    all = λ more c. from_there cmp decides more.keys sums (h.alike.keys more.keys
        ∙ to_there cmp decides more (addends s count gs groups)
        (Contains-append_right (empty_total s count gs) (all_added s groups) more c));
    none = λ is. from_there cmp decides none sums (h.alike.keys none
        ∙ list_any-append (λ row. are_same cmp none row.keys) (empty_total s count gs)
        (all_added s groups)
        ∙ or_left (is_there cmp none (empty_total s count gs))
        (is_there cmp none (all_added s groups))
        (ap (λ b. is_there cmp none (cond b (record { keys = none; totals = nothing } ∷ []) [])) is
        ∙ ap (λ b. b || false) (same_itself cmp decides none)));
  }
    where
      made : (group : GroupRow K) → is_there cmp group.keys (addends s count gs groups) ≡ true
          → ((more : GroupRow K) × Contains (all_added s groups) more × (more.keys ≡ group.keys))
          ⊎ (IsTrue (is_grouping s group.keys) × (group.keys ≡ none))
      made group h =
          ⊎_elim {C = ((more : GroupRow K) × Contains (all_added s groups) more
          × (more.keys ≡ group.keys)) ⊎ (IsTrue (is_grouping s group.keys) × (group.keys ≡ none))}
          (λ e. let is = there_empty group.keys e in
          inr (subst (λ ks. IsTrue (is_grouping s ks)) (sym is.1) is.0, is.1))
          (λ e. inl (from_there cmp decides group.keys (all_added s groups) e))
          (or_cases (is_there cmp group.keys (empty_total s count gs))
          (is_there cmp group.keys (all_added s groups))
          (sym (list_any-append (λ row. are_same cmp group.keys row.keys) (empty_total s count gs)
          (all_added s groups)) ∙ h))
