-- The plain groups of parts make up the groups of all their rows.
use Rattle.std.proofs.Common.{◌≡◌, ◌≢◌, ◌∙◌, ◌↔◌, ℕ, zero, suc, Bool, true, false, ◌&&◌, ◌||◌, List, [], ◌∷◌, ◌++◌, Option, Some, None, AllPairs, map, cond, refl, sym, subst, ap, arith, inl, inr, ⊎_elim, true≢false}
use Rattle.star_merge_laws.{proofs.Common.{Aggregate, All, All-head, All-tail, AllByRecursion, AreGroups, AreMerged, Contains, Contains-append_cases, Contains-append_left, Contains-append_right, Decides, Entry, GroupRow, IsGroup, IsMasked, IsPart, IsTrue, Ordering, Plain, Shape, all_groups, all_keys, all_rows, and_from, and_parts, as_row, belongs, contains_mapped, contains_none, filter, filter-append, filter_agree, flat_map, from_contains_map, is_eq, is_grouping, list_any, list_any-from_Any, members, merged_totals, of_each, option_to_list, recursion_from_All, replicate, shown_masked, total_over, totals_of}, specs.Merging.Part, proofs.Totals.totals_either}

-- ---- keys that are all shown

abbrev shown : {K : Type 0} → List (Option K) → List K
shown ms = flat_map option_to_list ms

shown_of : {K : Type 0} (ks : List K) → shown (map Some ks) ≡ ks
shown_of [] = refl
shown_of (k ∷ ks) = ap (λ rest. k ∷ rest) (shown_of ks)

-- only no key at all is both shown and hidden
none_hidden : {K : Type 0} (count : ℕ) → is_grouping {K = K} Plain (replicate count None) ≡ true
    → replicate {A = Option K} count None ≡ []
none_hidden zero h = refl
none_hidden (suc count) h = absurd (true≢false (sym h))

itself_masked : {K : Type 0} (ks : List K) → IsMasked (map Some ks) ks
itself_masked [] = tt
itself_masked (k ∷ ks) = (refl, itself_masked ks)

nothing_masked : {K : Type 0} (ms : List (Option K)) → IsMasked ms [] → ms ≡ []
nothing_masked [] h = refl
nothing_masked (None ∷ ms) h = absurd h
nothing_masked (Some m ∷ ms) h = absurd h

-- ---- rows that belong to a group

module _ {K : Type 0} (cmp : K → K → Ordering)
    (decides : (a b : K) → Decides (is_eq (cmp a b)) (a ≡ b)) where
  pub masked_of : (ms : List (Option K)) (ks : List K) → belongs cmp ms ks ≡ true → IsMasked ms ks
  masked_of [] [] h = tt
  masked_of (None ∷ ms) (k ∷ ks) h = masked_of ms ks h
  masked_of (Some m ∷ ms) (k ∷ ks) h =
      let parts = and_parts (is_eq (cmp m k)) (belongs cmp ms ks) h in
      ((decides m k).0 parts.0, masked_of ms ks parts.1)
  masked_of [] (k ∷ ks) h = absurd (true≢false (sym h))
  masked_of (None ∷ ms) [] h = absurd (true≢false (sym h))
  masked_of (Some m ∷ ms) [] h = absurd (true≢false (sym h))

  pub belongs_of : (ms : List (Option K)) (ks : List K) → IsMasked ms ks → belongs cmp ms ks ≡ true
  belongs_of [] [] h = refl
  belongs_of (None ∷ ms) (k ∷ ks) h = belongs_of ms ks h
  belongs_of (Some m ∷ ms) (k ∷ ks) h =
      and_from (is_eq (cmp m k)) (belongs cmp ms ks) ((decides m k).1 h.0) (belongs_of ms ks h.1)
  belongs_of [] (k ∷ ks) h = absurd h
  belongs_of (None ∷ ms) [] h = absurd h
  belongs_of (Some m ∷ ms) [] h = absurd h

  -- a row belongs to a plain group exactly by having its keys
  own_keys : (ms : List (Option K)) (ks : List K) → is_grouping Plain ms ≡ true
      → belongs cmp ms ks ≡ true → ms ≡ map Some ks
  own_keys ms ks plain h = shown_masked ms ks plain (masked_of ms ks h)

  -- ---- the plain groups of some rows, summed up

  -- the row is of one of these groups
  abbrev is_among : List (GroupRow K) → Entry K → Bool
  is_among groups row = list_any (λ group. belongs cmp group.keys row.keys) groups

  abbrev ArePlain : List (GroupRow K) → Type 0
  ArePlain groups = AllByRecursion (λ group. is_grouping Plain group.keys ≡ true) groups

  abbrev AreApart : List (GroupRow K) → Type 0
  AreApart [] = Unit {0}
  AreApart (group ∷ groups) = AllByRecursion (λ other. group.keys ≢ other.keys) groups
      × AreApart groups

  -- a row of a group is of no other
  none_other : (group : GroupRow K) (groups : List (GroupRow K)) (row : Entry K)
      → is_grouping Plain group.keys ≡ true → ArePlain groups
      → AllByRecursion (λ other. group.keys ≢ other.keys) groups
      → belongs cmp group.keys row.keys ≡ true → is_among groups row ≡ false
  none_other group [] row plain are apart h = refl
  none_other group (other ∷ groups) row plain are apart h =
      grind (arith, none_other group groups row plain are.1 apart.1 h, own_keys)

  none_kept : {X : Type 0} (xs : List X) → filter (λ x. false) xs ≡ []
  none_kept [] = refl
  none_kept (x ∷ xs) = none_kept xs

  module _ (gs : List Aggregate) (passes : List K → Bool) (rows more : List (Entry K))
      (rest : List (GroupRow K)) (told : total_over gs rest ≡ totals_of gs more) where
    -- those of the groups that pass
    abbrev kept : List (GroupRow K) → List (GroupRow K)
    kept groups = filter (λ group. passes (shown group.keys)) groups

    -- the rows of those
    abbrev of_kept : List (GroupRow K) → Entry K → Bool
    of_kept groups row = is_among groups row && passes row.keys

    summed : (groups : List (GroupRow K)) → ArePlain groups → AreApart groups
        → AllByRecursion (λ group. group.totals ≡ totals_of gs (members cmp group.keys rows)) groups
        → total_over gs (kept groups ++ rest) ≡ totals_of gs (filter (of_kept groups) rows ++ more)
    summed [] plain apart each = told
        ∙ ap (λ none. totals_of gs (none ++ more)) (sym (none_kept rows))
    summed (group ∷ groups) plain apart each =
        by (passes (shown group.keys)) refl (summed groups plain.1 apart.1 each.1)
      where
        of_group : Entry K → Bool
        of_group row = belongs cmp group.keys row.keys

        own : (row : Entry K) → of_group row ≡ true → shown group.keys ≡ row.keys
        own row h = ap shown (own_keys group.keys row.keys plain.0 h) ∙ shown_of row.keys

        alone : (row : Entry K) → of_group row ≡ true → is_among groups row ≡ false
        alone row h = none_other group groups row plain.0 plain.1 apart.0 h

        either : passes (shown group.keys) ≡ true → (row : Entry K)
            → of_kept (group ∷ groups) row ≡ (of_group row || of_kept groups row)
        either h row = at (of_group row) refl
          where
            at : (b : Bool) → of_group row ≡ b
                → ((b || is_among groups row) && passes row.keys) ≡ (b || of_kept groups row)
            at true e = sym (ap passes (own row e)) ∙ h
            at false e = refl

        not_both : (row : Entry K) → (of_group row && of_kept groups row) ≡ false
        not_both row = at (of_group row) refl
          where
            at : (b : Bool) → of_group row ≡ b → (b && of_kept groups row) ≡ false
            at true e = ap (λ c. c && passes row.keys) (alone row e)
            at false e = refl

        left_out : passes (shown group.keys) ≡ false → (row : Entry K)
            → of_kept groups row ≡ of_kept (group ∷ groups) row
        left_out h row = at (of_group row) refl
          where
            at : (b : Bool) → of_group row ≡ b
                → of_kept groups row ≡ ((b || is_among groups row) && passes row.keys)
            at true e = ap (λ c. c && passes row.keys) (alone row e)
                ∙ sym (sym (ap passes (own row e)) ∙ h)
            at false e = refl

        by : (b : Bool) → passes (shown group.keys) ≡ b
            → total_over gs (kept groups ++ rest)
            ≡ totals_of gs (filter (of_kept groups) rows ++ more)
            → total_over gs (cond b (group ∷ kept groups) (kept groups) ++ rest)
            ≡ totals_of gs (filter (of_kept (group ∷ groups)) rows ++ more)
        by true e later =
            (λ i. merged_totals gs (each.0 i) (later i))
            ∙ sym (totals_either of_group (of_kept groups) (of_kept (group ∷ groups)) more rows
            (either e) not_both gs)
        by false e later = later
            ∙ ap (λ kept_rows. totals_of gs (kept_rows ++ more))
            (filter_agree (of_kept groups) (of_kept (group ∷ groups)) (left_out e) rows)

    -- where each row is of some group
    covered : (groups : List (GroupRow K)) (some_rows : List (Entry K))
        → AllByRecursion (λ row. is_among groups row ≡ true) some_rows
        → filter (of_kept groups) some_rows ≡ filter (λ row. passes row.keys) some_rows
    covered groups [] all = refl
    covered groups (row ∷ some_rows) all = grind (arith, covered groups some_rows all.1)

    pub summed_up : (groups : List (GroupRow K)) → ArePlain groups → AreApart groups
        → AllByRecursion (λ group. group.totals ≡ totals_of gs (members cmp group.keys rows)) groups
        → AllByRecursion (λ row. is_among groups row ≡ true) rows
        → total_over gs (kept groups ++ rest)
        ≡ totals_of gs (filter (λ row. passes row.keys) rows ++ more)
    summed_up groups plain apart each all =
        summed groups plain apart each
        ∙ ap (λ kept_rows. totals_of gs (kept_rows ++ more)) (covered groups rows all)

  -- ---- parts

  apart_of : (groups : List (GroupRow K)) → AllPairs (λ a b. a.keys ≢ b.keys) groups
      → AreApart groups
  apart_of [] h = tt
  apart_of (group ∷ groups) h = (
    recursion_from_All (λ other. group.keys ≢ other.keys) groups
        (λ k d within. h 0 (suc k) d (omega arith) (omega (arith, within))),
    apart_of groups
        (λ i j d before within.
        h (suc i) (suc j) d (omega (arith, before)) (omega (arith, within))),
  )

  module _ (count : ℕ) (gs : List Aggregate) where
    own_group : (part : Part K) → IsPart cmp count gs part → (row : Entry K)
        → Contains part.rows row
        → (group : GroupRow K) × Contains part.groups group × (group.keys ≡ map Some row.keys)
    own_group part is row c =
        is.groups.all (map Some row.keys)
        (all_keys Plain row.keys, inl (row, c, itself_masked row.keys))

    among_own : (part : Part K) → IsPart cmp count gs part → (row : Entry K)
        → Contains part.rows row → is_among part.groups row ≡ true
    among_own part is row c =
        let own = own_group part is row c in
        list_any-from_Any (λ group. belongs cmp group.keys row.keys) part.groups (
          own.1.0,
          own.0,
          own.1.1,
          own.1.2,
          belongs_of own.0.keys row.keys
              (subst (λ ms. IsMasked ms row.keys) (sym own.2) (itself_masked row.keys)),
        )

    -- the totals of the groups that pass are those of the rows that do
    summed_parts : (passes : List K → Bool) (parts : List (Part K))
        → All (IsPart cmp count gs) parts
        → total_over gs (filter (λ group. passes (shown group.keys)) (all_groups parts))
        ≡ totals_of gs (filter (λ row. passes row.keys) (all_rows parts))
    summed_parts passes [] all = refl
    summed_parts passes (part ∷ parts) all =
        let is = All-head (IsPart cmp count gs) part parts all in
        ap (total_over gs)
        (filter-append (λ group. passes (shown group.keys)) part.groups (all_groups parts))
        ∙ summed_up gs passes part.rows (filter (λ row. passes row.keys) (all_rows parts))
        (filter (λ group. passes (shown group.keys)) (all_groups parts))
        (summed_parts passes parts (All-tail (IsPart cmp count gs) part parts all)) part.groups
        (of_each (λ group. is_grouping Plain group.keys ≡ true) part.groups
        (λ group c. (is.groups.each group c).0.0)) (apart_of part.groups is.once)
        (of_each (λ group. group.totals ≡ totals_of gs (members cmp group.keys part.rows))
        part.groups (λ group c. (is.groups.each group c).1))
        (of_each (λ row. is_among part.groups row ≡ true) part.rows (among_own part is))
        ∙ ap (totals_of gs)
        (sym (filter-append (λ row. passes row.keys) part.rows (all_rows parts)))

    group_of_row : (parts : List (Part K)) → All (IsPart cmp count gs) parts → (row : Entry K)
        → Contains (all_rows parts) row
        → (group : GroupRow K) × Contains (all_groups parts) group
        × (group.keys ≡ map Some row.keys)
    group_of_row [] all row c = absurd (contains_none row c)
    group_of_row (part ∷ parts) all row c =
        ⊎_elim {C = (group : GroupRow K) × Contains (all_groups (part ∷ parts)) group
        × (group.keys ≡ map Some row.keys)}
        (λ here. let own = own_group part (All-head
        (IsPart cmp count gs) part parts all) row here in
        (own.0, Contains-append_left part.groups (all_groups parts) own.0 own.1, own.2))
        (λ later. let own = group_of_row parts (All-tail
        (IsPart cmp count gs) part parts all) row later
        in (own.0, Contains-append_right part.groups (all_groups parts) own.0 own.1, own.2))
        (Contains-append_cases part.rows (all_rows parts) row c)

    more_rows : (s : Shape) (xs ys : List (Entry K)) (keys : List (Option K))
        → ((row : Entry K) → Contains xs row → Contains ys row) → IsGroup s count xs keys
        → IsGroup s count ys keys
    more_rows s xs ys keys more (plain, inl row) = (plain, inl (row.0, more row.0 row.1, row.2))
    more_rows s xs ys keys more (plain, inr none) = (plain, inr none)

    rows_of_group : (parts : List (Part K)) → All (IsPart cmp count gs) parts → (group : GroupRow K)
        → Contains (all_groups parts) group → IsGroup Plain count (all_rows parts) group.keys
    rows_of_group [] all group c = absurd (contains_none group c)
    rows_of_group (part ∷ parts) all group c =
        ⊎_elim {C = IsGroup Plain count (all_rows (part ∷ parts)) group.keys}
        (λ here. more_rows Plain part.rows (all_rows (part ∷ parts)) group.keys
        (Contains-append_left part.rows (all_rows parts))
        ((All-head (IsPart cmp count gs) part parts all).groups.each group here).0)
        (λ later. more_rows Plain (all_rows parts) (all_rows (part ∷ parts)) group.keys
        (Contains-append_right part.rows (all_rows parts))
        (rows_of_group parts (All-tail (IsPart cmp count gs) part parts all) group later))
        (Contains-append_cases part.groups (all_groups parts) group c)

    module _ (s : Shape) (parts : List (Part K)) (all : All (IsPart cmp count gs) parts) where
      group_told : (keys : List (Option K)) → IsGroup s count (all_rows parts) keys
          → IsGroup s count (map as_row (all_groups parts)) keys
      group_told keys (is, inl row) =
          let own = group_of_row parts all row.0 row.1 in (
            is,
            inl (
              as_row own.0,
              contains_mapped as_row (all_groups parts) own.0 own.1,
              subst (IsMasked keys) (sym (ap shown own.2 ∙ shown_of row.0.keys)) row.2,
            ),
          )
      group_told keys (is, inr none) = (is, inr none)

      hidden_or_own : (keys ms : List (Option K)) → IsMasked keys (shown ms)
          → IsGroup Plain count (all_rows parts) ms → IsTrue (is_grouping s keys)
          → IsGroup s count (all_rows parts) keys
      hidden_or_own keys ms masked it is =
          grind (arith, shown_masked, shown_of, none_hidden, nothing_masked)

      group_there : (keys : List (Option K)) → IsGroup s count (map as_row (all_groups parts)) keys
          → IsGroup s count (all_rows parts) keys
      group_there keys (is, inl row) =
          let own = from_contains_map as_row (all_groups parts) row.0 row.1 in
          hidden_or_own keys own.0.keys
          (subst (λ (r : Entry K). IsMasked keys r.keys) (sym own.2) row.2)
          (rows_of_group parts all own.0 own.1) is
      group_there keys (is, inr none) = (is, inr none)

      -- the groups that are made of the parts' groups are those of all rows
      pub merged_groups : (groups : List (GroupRow K))
          → AreMerged cmp s count gs (all_groups parts) groups
          ↔ AreGroups cmp s count gs (all_rows parts) groups
      merged_groups groups = (
        λ h. record {
          each = λ group c. (
            group_there group.keys (h.each group c).0,
            (h.each group c).1 ∙ summed_parts (belongs cmp group.keys) parts all,
          );
          all = λ keys is. h.all keys (group_told keys is);
        },
        λ h. record {
          each = λ group c. (
            group_told group.keys (h.each group c).0,
            (h.each group c).1 ∙ sym (summed_parts (belongs cmp group.keys) parts all),
          );
          all = λ keys is. h.all keys (group_there keys is);
        },
      )
