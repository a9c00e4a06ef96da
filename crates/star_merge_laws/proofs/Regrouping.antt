-- Totals that are added up under all groupings are those of the groups.
use Rattle.std.proofs.{Common.{◌≡◌, ◌∙◌, ◌⊎◌, ℕ, Bool, true, false, ◌&&◌, List, [], ◌∷◌, ◌++◌, Option, Some, None, map, cond, refl, sym, subst, ap, inl, inr, ⊎_elim, true≢false, IsTrue, arith}, lemmas.Grind.common_steps}
use Rattle.star_merge_laws.proofs.Common.{Aggregate, All, All-append, All-cons, All-contains, All-contains_itself, All-filter, All-map, All-nil, All-weaker, AreAddedUp, AreMerged, Contains, Contains-append_cases, Contains-append_left, Contains-append_right, Decides, Entry, Equal, Greater, GroupRow, IsGroup, IsMasked, Less, Ordering, Shape, added, all_added, and_parts, append-nil, are_same, as_row, belongs, contains_cases, contains_here, contains_later, contains_mapped, contains_none, filter, filter-append, filter_agree, filter_passes, flat_map, from_contains_map, is_eq, is_grouping, key_cmp, masks, ordering_then, parts_of, replicate, slice_cmp, total_over}

-- ---- lists

contrary : (b c : Bool) → (b ≡ true → c ≡ true) → c ≡ false → b ≡ false
contrary true c h e = absurd (true≢false (sym (h refl) ∙ e))
contrary false c h e = refl

module _ {X : Type 0} where
  none_pass : (p : X → Bool) → ((x : X) → p x ≡ false) → (xs : List X) → filter p xs ≡ []
  none_pass p none [] = refl
  none_pass p none (x ∷ xs) =
      ap (λ b. cond b (x ∷ filter p xs) (filter p xs)) (none x) ∙ none_pass p none xs

  -- a test that implies the other
  filter_twice : (p q : X → Bool) → ((x : X) → p x ≡ true → q x ≡ true) → (xs : List X)
      → filter p (filter q xs) ≡ filter p xs
  filter_twice p q implies [] = refl
  filter_twice p q implies (x ∷ xs) = grind (arith, filter_twice p q implies xs, contrary)

  contains_kept : (p : X → Bool) (xs : List X) (x : X) → Contains xs x → p x ≡ true
      → Contains (filter p xs) x
  contains_kept p [] x c h = absurd (contains_none x c)
  contains_kept p (y ∷ xs) x c h = by (p y) refl (λ later. contains_kept p xs x later h)
    where
      by : (b : Bool) → p y ≡ b → (Contains xs x → Contains (filter p xs) x)
          → Contains (cond b (y ∷ filter p xs) (filter p xs)) x
      by true e later = ⊎_elim {C = Contains (y ∷ filter p xs) x}
          (λ same. subst (Contains (y ∷ filter p xs)) same (contains_here y (filter p xs)))
          (λ there. contains_later y (filter p xs) x (later there)) (contains_cases y xs x c)
      by false e later = ⊎_elim {C = Contains (filter p xs) x}
          (λ same. absurd (true≢false (sym h ∙ ap p (sym same) ∙ e))) later
          (contains_cases y xs x c)

  kept_contains : (p : X → Bool) (xs : List X) (x : X) → Contains (filter p xs) x
      → Contains xs x × (p x ≡ true)
  kept_contains p xs x c = (
    All-contains (Contains xs) (filter p xs) x
        (All-filter p (Contains xs) xs (All-contains_itself xs)) c,
    All-contains (λ y. p y ≡ true) (filter p xs) x (filter_passes p xs) c,
  )

module _ {X Y : Type 0} where
  pub filter_mapped : (p : Y → Bool) (f : X → Y) (xs : List X)
      → filter p (map f xs) ≡ map f (filter (λ x. p (f x)) xs)
  filter_mapped p f [] = refl
  filter_mapped p f (x ∷ xs) = grind (arith, filter_mapped p f xs)

  none_mapped : (p : Y → Bool) (f : X → Y) → ((x : X) → p (f x) ≡ false) → (xs : List X)
      → filter p (map f xs) ≡ []
  none_mapped p f none xs =
      filter_mapped p f xs ∙ ap (map f) (none_pass (λ x. p (f x)) none xs)

  map_cond : (f : X → Y) (b : Bool) (x : X) → map f (cond b (x ∷ []) []) ≡ cond b (f x ∷ []) []
  map_cond f true x = refl
  map_cond f false x = refl

  in_piece : (f : X → List Y) (xs : List X) (y : Y) → Contains (flat_map f xs) y
      → (x : X) × Contains xs x × Contains (f x) y
  in_piece f [] y c = absurd (contains_none y c)
  in_piece f (x ∷ xs) y c =
      ⊎_elim {C = (z : X) × Contains (x ∷ xs) z × Contains (f z) y}
      (λ here. (x, contains_here x xs, here))
      (λ later. let found = in_piece f xs y later in
      (found.0, contains_later x xs found.0 found.1, found.2))
      (Contains-append_cases (f x) (flat_map f xs) y c)

  piece_in : (f : X → List Y) (xs : List X) (x : X) (y : Y) → Contains xs x → Contains (f x) y
      → Contains (flat_map f xs) y
  piece_in f [] x y c h = absurd (contains_none x c)
  piece_in f (z ∷ xs) x y c h =
      ⊎_elim {C = Contains (f z ++ flat_map f xs) y}
      (λ same. Contains-append_left (f z) (flat_map f xs) y
      (subst (λ w. Contains (f w) y) (sym same) h))
      (λ later. Contains-append_right (f z) (flat_map f xs) y (piece_in f xs x y later h))
      (contains_cases z xs x c)

-- ---- keys

is_then : (o p : Ordering) → is_eq (ordering_then o p) ≡ (is_eq o && is_eq p)
is_then Less p = refl
is_then Equal p = refl
is_then Greater p = refl

module _ {K : Type 0} (cmp : K → K → Ordering)
    (decides : (a b : K) → Decides (is_eq (cmp a b)) (a ≡ b)) where
  key_is : (a b : Option K) → is_eq (key_cmp cmp a b) ≡ true → a ≡ b
  key_is None None h = refl
  key_is (Some a) (Some b) h = ap Some ((decides a b).0 h)
  key_is None (Some b) h = absurd (true≢false (sym h))
  key_is (Some a) None h = absurd (true≢false (sym h))

  pub keys_are : (a b : List (Option K)) → are_same cmp a b ≡ true → a ≡ b
  keys_are [] [] h = refl
  keys_are [] (y ∷ ys) h = absurd (true≢false (sym h))
  keys_are (x ∷ xs) [] h = absurd (true≢false (sym h))
  keys_are (x ∷ xs) (y ∷ ys) h =
      let parts = and_parts (is_eq (key_cmp cmp x y)) (are_same cmp xs ys)
      (sym (is_then (key_cmp cmp x y) (slice_cmp (key_cmp cmp) xs ys)) ∙ h) in
      λ i. key_is x y parts.0 i ∷ keys_are xs ys parts.1 i

  -- of the masks of some keys just one is that of a group that they belong to
  only_mask : (q : List (Option K)) (ks : List K)
      → filter (are_same cmp q) (masks ks) ≡ cond (belongs cmp q ks) (q ∷ []) []
  only_mask [] [] = refl
  only_mask (None ∷ q) [] = refl
  only_mask (Some j ∷ q) [] = refl
  only_mask [] (k ∷ ks) = grind (arith, filter-append, masks, none_mapped)
  only_mask (None ∷ q) (k ∷ ks) =
      grind (arith, common_steps, only_mask q ks, filter-append, masks, none_mapped, filter_mapped)
  only_mask (Some j ∷ q) (k ∷ ks) =
      filter-append (are_same cmp (Some j ∷ q)) (map (λ m. Some k ∷ m) (masks ks))
      (map (λ m. None ∷ m) (masks ks))
      ∙ (λ i. (filter_mapped (are_same cmp (Some j ∷ q)) (λ m. Some k ∷ m) (masks ks)
      ∙ ap (map (λ m. Some k ∷ m)) (by (is_eq (cmp j k)) refl (only_mask q ks))
      ∙ map_cond (λ m. Some k ∷ m) (is_eq (cmp j k) && belongs cmp q ks) q
      ∙ own (is_eq (cmp j k) && belongs cmp q ks) refl) i
      ++ none_mapped (are_same cmp (Some j ∷ q)) (λ m. None ∷ m) (λ m. refl) (masks ks) i)
      ∙ append-nil (cond (is_eq (cmp j k) && belongs cmp q ks) ((Some j ∷ q) ∷ []) [])
    where
      by : (b : Bool) → is_eq (cmp j k) ≡ b
          → filter (are_same cmp q) (masks ks) ≡ cond (belongs cmp q ks) (q ∷ []) []
          → filter (λ m. are_same cmp (Some j ∷ q) (Some k ∷ m)) (masks ks)
          ≡ cond (is_eq (cmp j k) && belongs cmp q ks) (q ∷ []) []
      by true e rest =
          filter_agree (λ m. are_same cmp (Some j ∷ q) (Some k ∷ m)) (are_same cmp q)
          (λ m. is_then (cmp j k) (slice_cmp (key_cmp cmp) q m) ∙ ap (λ b. b && are_same cmp q m) e)
          (masks ks)
          ∙ rest ∙ sym (ap (λ b. cond (b && belongs cmp q ks) (q ∷ []) []) e)
      by false e rest =
          none_pass (λ m. are_same cmp (Some j ∷ q) (Some k ∷ m))
          (λ m. is_then (cmp j k) (slice_cmp (key_cmp cmp) q m) ∙ ap (λ b. b && are_same cmp q m) e)
          (masks ks)
          ∙ sym (ap (λ b. cond (b && belongs cmp q ks) (q ∷ []) []) e)

      own : (b : Bool) → (is_eq (cmp j k) && belongs cmp q ks) ≡ b
          → cond b ((Some k ∷ q) ∷ []) [] ≡ cond b ((Some j ∷ q) ∷ []) []
      own true e = let same : j ≡ k = (decides j k).0
          (and_parts (is_eq (cmp j k)) (belongs cmp q ks) e).0 in
          λ i. (Some (sym same i) ∷ q) ∷ []
      own false e = refl

  masks_masked : (ks : List K) → All (λ m. IsMasked m ks) (masks ks)
  masks_masked [] = All-cons (λ m. IsMasked m []) [] [] tt (All-nil (λ m. IsMasked m []))
  masks_masked (k ∷ ks) =
      All-append (λ m. IsMasked m (k ∷ ks)) (map (λ m. Some k ∷ m) (masks ks))
      (map (λ m. None ∷ m) (masks ks))
      (All-map (λ m. IsMasked m (k ∷ ks)) (λ m. Some k ∷ m) (masks ks)
      (All-weaker (λ m. IsMasked m ks) (λ m. IsMasked (Some k ∷ m) (k ∷ ks)) (λ m h. (refl, h))
      (masks ks) (masks_masked ks)))
      (All-map (λ m. IsMasked m (k ∷ ks)) (λ m. None ∷ m) (masks ks)
      (All-weaker (λ m. IsMasked m ks) (λ m. IsMasked (None ∷ m) (k ∷ ks)) (λ m h. h) (masks ks)
      (masks_masked ks)))

  masked_there : (m : List (Option K)) (ks : List K) → IsMasked m ks → Contains (masks ks) m
  masked_there [] [] h = contains_here [] []
  masked_there (None ∷ m) (k ∷ ks) h =
      Contains-append_right (map (λ m. Some k ∷ m) (masks ks)) (map (λ m. None ∷ m) (masks ks))
      (None ∷ m) (contains_mapped (λ m. None ∷ m) (masks ks) m (masked_there m ks h))
  masked_there (Some j ∷ m) (k ∷ ks) h =
      subst (λ x. Contains (masks (k ∷ ks)) (Some x ∷ m)) (sym h.0)
      (Contains-append_left (map (λ m. Some k ∷ m) (masks ks)) (map (λ m. None ∷ m) (masks ks))
      (Some k ∷ m) (contains_mapped (λ m. Some k ∷ m) (masks ks) m (masked_there m ks h.1)))
  masked_there [] (k ∷ ks) h = absurd h
  masked_there (None ∷ m) [] h = absurd h
  masked_there (Some j ∷ m) [] h = absurd h

  -- ---- groups

  module _ (s : Shape) where
    abbrev under : GroupRow K → List (Option K) → GroupRow K
    under group keys = record { keys = keys; totals = group.totals }

    -- a told group adds its totals once to each group that it is part of
    added_once : (q : List (Option K)) (group : GroupRow K) → is_grouping s q ≡ true
        → filter (λ more. are_same cmp q more.keys) (added s group)
        ≡ cond (belongs cmp q (as_row group).keys) (under group q ∷ []) []
    added_once q group is =
        let ks = (as_row group).keys in
        filter_mapped (λ more. are_same cmp q more.keys) (under group)
        (filter (is_grouping s) (masks ks))
        ∙ ap (map (under group)) (filter_twice (are_same cmp q) (is_grouping s)
        (λ m h. ap (is_grouping s) (sym (keys_are q m h)) ∙ is) (masks ks) ∙ only_mask q ks)
        ∙ map_cond (under group) (belongs cmp q ks) q

    added_totals : (gs : List Aggregate) (q : List (Option K)) → is_grouping s q ≡ true
        → (groups : List (GroupRow K))
        → total_over gs (filter (λ more. are_same cmp q more.keys) (all_added s groups))
        ≡ total_over gs (parts_of cmp q groups)
    added_totals gs q is [] = refl
    added_totals gs q is (group ∷ groups) =
        grind (arith, added_totals gs q is groups, filter-append, added, all_added, added_once)

    -- what is added is a group
    pub added_group : (count : ℕ) (groups : List (GroupRow K)) (more : GroupRow K)
        → Contains (all_added s groups) more → IsGroup s count (map as_row groups) more.keys
    added_group count groups more c =
        let piece = in_piece (added s) groups more c in
        let ks = (as_row piece.0).keys in
        let mask = from_contains_map (under piece.0)
        (filter (is_grouping s) (masks ks)) more piece.2
        in let kept = kept_contains (is_grouping s) (masks ks) mask.0 mask.1 in
        let own : mask.0 ≡ more.keys = ap (λ (g : GroupRow K). g.keys) mask.2 in (
          subst (λ keys. is_grouping s keys ≡ true) own kept.1,
          inl (
            as_row piece.0,
            contains_mapped as_row groups piece.0 piece.1,
            subst (λ keys. IsMasked keys ks) own
                (All-contains (λ m. IsMasked m ks) (masks ks) mask.0 (masks_masked ks) kept.0),
          ),
        )

    -- and what is a group is added
    pub group_added : (groups : List (GroupRow K)) (keys : List (Option K)) (row : Entry K)
        → IsTrue (is_grouping s keys) → Contains (map as_row groups) row → IsMasked keys row.keys
        → (more : GroupRow K) × Contains (all_added s groups) more × (more.keys ≡ keys)
    group_added groups keys row is c masked =
        let from = from_contains_map as_row groups row c in
        let ks = (as_row from.0).keys in
        let own : IsMasked keys ks =
        subst (λ (r : Entry K). IsMasked keys r.keys) (sym from.2) masked
        in (
          under from.0 keys,
          piece_in (added s) groups from.0 (under from.0 keys) from.1
              (contains_mapped (under from.0) (filter (is_grouping s) (masks ks)) keys
              (contains_kept (is_grouping s) (masks ks) keys (masked_there keys ks own) is)),
          refl,
        )

    pub added_up : (count : ℕ) (gs : List Aggregate) (parts groups : List (GroupRow K))
        → AreAddedUp cmp s count gs parts groups → AreMerged cmp s count gs parts groups
    added_up count gs parts groups h = record {
      each = λ group c. told group (h.each group c);
      all = λ keys is. there keys is;
    }
      where
        is_group : (group : GroupRow K)
            → (((more : GroupRow K) × Contains (all_added s parts) more × (more.keys ≡ group.keys))
            ⊎ (IsTrue (is_grouping s group.keys) × (group.keys ≡ replicate count None)))
            → IsGroup s count (map as_row parts) group.keys
        is_group group (inl more) =
            subst (IsGroup s count (map as_row parts)) more.2
            (added_group count parts more.0 more.1)
        is_group group (inr none) = (none.0, inr none.1)

        told : (group : GroupRow K)
            → (((more : GroupRow K) × Contains (all_added s parts) more × (more.keys ≡ group.keys))
            ⊎ (IsTrue (is_grouping s group.keys) × (group.keys ≡ replicate count None)))
            × (group.totals ≡ total_over gs
            (filter (λ more. are_same cmp group.keys more.keys) (all_added s parts)))
            → IsGroup s count (map as_row parts) group.keys
            × (group.totals ≡ total_over gs (parts_of cmp group.keys parts))
        told group known =
            let is = is_group group known.0 in
            (is, known.1 ∙ added_totals gs group.keys is.0 parts)

        there : (keys : List (Option K)) → IsGroup s count (map as_row parts) keys
            → (group : GroupRow K) × Contains groups group × (group.keys ≡ keys)
        there keys (is, inl row) =
            let more = group_added parts keys row.0 is row.1 row.2 in
            let found = h.all more.0 more.1 in
            (found.0, found.1, found.2 ∙ more.2)
        there keys (is, inr none) =
            let found = h.none (subst (λ ks. IsTrue (is_grouping s ks)) none is) in
            (found.0, found.1, found.2 ∙ sym none)
