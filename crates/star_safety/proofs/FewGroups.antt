-- Groups whose keys have few values are few.
use Rattle.std.proofs.{Common.{◌≡◌, ◌⊎◌, ℕ, zero, suc, ◌≤◌, Bool, true, false, List, [], ◌∷◌, ◌++◌, Option, Some, None, length, map, replicate, refl, sym, ap, subst, ◌∙◌, arith, ⊎_elim, true≢false, le_trans}, lemmas.Grind.common_steps}
use Rattle.star_safety.proofs.Common.{Contains, Contains-append_cases, Contains-append_left, Contains-append_right, Contains-from_any, Cube, IsDistinct, IsMasked, KeyValue, Plain, Rollup, Shape, contains_cases, contains_here, contains_later, contains_mapped, contains_none, filter, flat_map, from_contains_map, if◌then◌else◌, is_grouping, is_none, key_decides, key_eq, key_equiv, length-append, length-le_from_is_member, length-map, length-rows, list_all, list_any-from_Contains, lists_of, masks, nat_le, rows_of_grouping, rows_of_groupings, sum_by, sum_by-cons}

-- ---- elements of lists that are joined, and of those that pass a test

module _ {X : Type 0} where
  contains_flat : {Y : Type 0} (f : X → List Y) (xs : List X) (x : X) (y : Y)
      → Contains xs x → Contains (f x) y → Contains (flat_map f xs) y
  contains_flat f [] x y h k = absurd (contains_none x h)
  contains_flat {Y} f (z ∷ xs) x y h k = ⊎_elim {C = Contains (f z ++ flat_map f xs) y}
      (λ e. Contains-append_left (f z) (flat_map f xs) y (subst (λ v. Contains (f v) y) (sym e) k))
      (λ later. Contains-append_right (f z) (flat_map f xs) y (contains_flat f xs x y later k))
      (contains_cases z xs x h)

  contains_passing : (p : X → Bool) (xs : List X) (x : X) → Contains xs x → p x ≡ true
      → Contains (filter p xs) x
  contains_passing p [] x h e = absurd (contains_none x h)
  contains_passing p (z ∷ xs) x h e =
      ⊎_elim {C = Contains (filter p (z ∷ xs)) x} (λ same. here (p z) (ap p same ∙ e) same)
      (λ later. there (p z) (contains_passing p xs x later e)) (contains_cases z xs x h)
    where
      here : (b : Bool) → b ≡ true → z ≡ x → Contains (if b then z ∷ filter p xs else filter p xs) x
      here true e same = subst (Contains (z ∷ filter p xs)) same (contains_here z (filter p xs))
      here false e same = absurd (true≢false (sym e))

      there : (b : Bool) → Contains (filter p xs) x
          → Contains (if b then z ∷ filter p xs else filter p xs) x
      there true c = contains_later z (filter p xs) x c
      there false c = c

  passing_contains : (p : X → Bool) (xs : List X) (x : X) → Contains (filter p xs) x → Contains xs x
  passing_contains p [] x h = absurd (contains_none x h)
  passing_contains p (z ∷ xs) x h = by (p z) (passing_contains p xs x) h
    where
      by : (b : Bool) → (Contains (filter p xs) x → Contains xs x)
          → Contains (if b then z ∷ filter p xs else filter p xs) x → Contains (z ∷ xs) x
      by true later c = ⊎_elim {C = Contains (z ∷ xs) x}
          (λ same. subst (Contains (z ∷ xs)) same (contains_here z xs))
          (λ k. contains_later z xs x (later k)) (contains_cases z (filter p xs) x c)
      by false later c = contains_later z xs x (later c)

-- ---- masks

module _ {A : Type 0} where
  mask_among : (m : List (Option A)) (ks : List A) → IsMasked m ks → Contains (masks ks) m
  mask_among [] [] h = contains_here [] []
  mask_among (Some j ∷ m) (k ∷ ks) h =
      grind (arith, common_steps, masks, contains_mapped, mask_among m ks h.1)
  mask_among (None ∷ m) (k ∷ ks) h =
      Contains-append_right (map (λ n. Some k ∷ n) (masks ks)) (map (λ n. None ∷ n) (masks ks)) _
      (contains_mapped (λ n. None ∷ n) (masks ks) m (mask_among m ks h))
  mask_among [] (k ∷ ks) h = absurd h
  mask_among (Some j ∷ m) [] h = absurd h
  mask_among (None ∷ m) [] h = absurd h

  among_mask : (ks : List A) (m : List (Option A)) → Contains (masks ks) m → IsMasked m ks
  among_mask [] m h = ⊎_elim {C = IsMasked m []} (λ e. subst (λ n. IsMasked n []) e tt)
      (λ c. absurd (contains_none m c)) (contains_cases [] [] m h)
  among_mask (k ∷ ks) m h = ⊎_elim {C = IsMasked m (k ∷ ks)}
      (λ c. let found = from_contains_map (λ n. Some k ∷ n) (masks ks) m c in
      subst (λ n. IsMasked n (k ∷ ks)) found.2 (refl, among_mask ks found.0 found.1))
      (λ c. let found = from_contains_map (λ n. None ∷ n) (masks ks) m c in
      subst (λ n. IsMasked n (k ∷ ks)) found.2 (among_mask ks found.0 found.1))
      (Contains-append_cases (map (λ n. Some k ∷ n) (masks ks)) (map (λ n. None ∷ n) (masks ks)) m
      h)

-- ---- a grouping's groups

hidden_none : (K : Type 0) (n : ℕ) → list_all is_none (replicate {A = Option K} n None) ≡ true
hidden_none K zero = refl
hidden_none K (suc n) = hidden_none K n

module _ {K : Type 0} where
  -- which keys are shown, by what stands for each
  abbrev like : {A : Type 0} → List (Option K) → List A → List (Option A)
  like [] xs = []
  like (q ∷ qs) [] = []
  like (None ∷ qs) (x ∷ xs) = None ∷ like qs xs
  like (Some k ∷ qs) (x ∷ xs) = Some x ∷ like qs xs

  like_masked : {A : Type 0} (qs : List (Option K)) (xs : List A) → length qs ≡ length xs
      → IsMasked (like qs xs) xs
  like_masked [] [] e = tt
  like_masked (None ∷ qs) (x ∷ xs) e = like_masked qs xs (omega (arith, e))
  like_masked (Some k ∷ qs) (x ∷ xs) e = (refl, like_masked qs xs (omega (arith, e)))
  like_masked [] (x ∷ xs) e = absurd (omega (arith, e))
  like_masked (None ∷ qs) [] e = absurd (omega (arith, e))
  like_masked (Some k ∷ qs) [] e = absurd (omega (arith, e))

  like_none : {A : Type 0} (qs : List (Option K)) (xs : List A) → length qs ≡ length xs
      → list_all is_none (like qs xs) ≡ list_all is_none qs
  like_none [] [] e = refl
  like_none (None ∷ qs) (x ∷ xs) e = like_none qs xs (omega (arith, e))
  like_none (Some k ∷ qs) (x ∷ xs) e = refl
  like_none [] (x ∷ xs) e = refl
  like_none (None ∷ qs) [] e = absurd (omega (arith, e))
  like_none (Some k ∷ qs) [] e = absurd (omega (arith, e))

  like_grouping : {A : Type 0} (s : Shape) (qs : List (Option K)) (xs : List A)
      → length qs ≡ length xs → is_grouping s (like qs xs) ≡ is_grouping s qs
  like_grouping Cube qs xs e = refl
  like_grouping Plain [] xs e = refl
  like_grouping Plain (None ∷ qs) (x ∷ xs) e = refl
  like_grouping Plain (Some k ∷ qs) (x ∷ xs) e = like_grouping Plain qs xs (omega (arith, e))
  like_grouping Plain (None ∷ qs) [] e = absurd (omega (arith, e))
  like_grouping Plain (Some k ∷ qs) [] e = absurd (omega (arith, e))
  like_grouping Rollup [] xs e = refl
  like_grouping Rollup (None ∷ qs) (x ∷ xs) e = like_none qs xs (omega (arith, e))
  like_grouping Rollup (Some k ∷ qs) (x ∷ xs) e = like_grouping Rollup qs xs (omega (arith, e))
  like_grouping Rollup (None ∷ qs) [] e = absurd (omega (arith, e))
  like_grouping Rollup (Some k ∷ qs) [] e = absurd (omega (arith, e))

  -- the keys of a row that such a grouping shows
  abbrev cut_like : {A : Type 0} → List (Option A) → List K → List (Option K)
  cut_like [] ks = []
  cut_like (m ∷ ms) [] = []
  cut_like (None ∷ ms) (k ∷ ks) = None ∷ cut_like ms ks
  cut_like (Some x ∷ ms) (k ∷ ks) = Some k ∷ cut_like ms ks

  cut_again : {A : Type 0} (qs : List (Option K)) (xs : List A) (ks : List K)
      → length qs ≡ length xs → IsMasked qs ks → cut_like (like qs xs) ks ≡ qs
  cut_again [] [] [] e h = refl
  cut_again (None ∷ qs) (x ∷ xs) (k ∷ ks) e h =
      ap (λ r. None ∷ r) (cut_again qs xs ks (omega (arith, e)) h)
  cut_again (Some q ∷ qs) (x ∷ xs) (k ∷ ks) e h =
      λ i. Some (sym h.0 i) ∷ cut_again qs xs ks (omega (arith, e)) h.1 i
  cut_again [] xs (k ∷ ks) e h = absurd h
  cut_again (None ∷ qs) xs [] e h = absurd h
  cut_again (Some q ∷ qs) xs [] e h = absurd h
  cut_again [] (x ∷ xs) [] e h = absurd (omega (arith, e))
  cut_again (None ∷ qs) [] (k ∷ ks) e h = absurd (omega (arith, e))
  cut_again (Some q ∷ qs) [] (k ∷ ks) e h = absurd (omega (arith, e))

  -- the lists of a value of each key that such a grouping shows
  abbrev choices : {A : Type 0} → List (Option A) → List (List K) → List (List (Option K))
  choices [] vss = [] ∷ []
  choices (m ∷ ms) [] = []
  choices (None ∷ ms) (vs ∷ vss) = map (λ q. None ∷ q) (choices ms vss)
  choices (Some x ∷ ms) (vs ∷ vss) = flat_map (λ v. map (λ q. Some v ∷ q) (choices ms vss)) vs

  -- how many values each key has
  abbrev pub sizes : List (List K) → List ℕ
  sizes [] = []
  sizes (vs ∷ vss) = length vs ∷ sizes vss

  length-sizes : (vss : List (List K)) → length (sizes vss) ≡ length vss
  length-sizes [] = refl
  length-sizes (vs ∷ vss) = ap suc (length-sizes vss)

  length-choices : (ms : List (Option ℕ)) (vss : List (List K)) → IsMasked ms (sizes vss)
      → length (choices ms vss) ≡ lists_of ms
  length-choices [] [] h = refl
  length-choices (None ∷ ms) (vs ∷ vss) h =
      length-map (choices ms vss) (λ q. None ∷ q) ∙ length-choices ms vss h
  length-choices (Some n ∷ ms) (vs ∷ vss) h =
      grind (arith, common_steps, length-rows, lists_of, length-map, length-choices ms vss h.1)
  length-choices [] (vs ∷ vss) h = absurd h
  length-choices (None ∷ ms) [] h = absurd h
  length-choices (Some n ∷ ms) [] h = absurd h

  -- each key that is shown has one of its values
  abbrev pub AreAmong : List (Option K) → List (List K) → Type 0
  AreAmong [] [] = Unit {0}
  AreAmong (None ∷ qs) (vs ∷ vss) = AreAmong qs vss
  AreAmong (Some k ∷ qs) (vs ∷ vss) = Contains vs k × AreAmong qs vss
  AreAmong _ _ = ⊥

  chosen : {A : Type 0} (qs : List (Option K)) (xs : List A) (vss : List (List K))
      → length qs ≡ length xs → AreAmong qs vss → Contains (choices (like qs xs) vss) qs
  chosen [] [] [] e h = contains_here [] []
  chosen (None ∷ qs) (x ∷ xs) (vs ∷ vss) e h =
      contains_mapped (λ q. None ∷ q) (choices (like qs xs) vss) qs
      (chosen qs xs vss (omega (arith, e)) h)
  chosen (Some k ∷ qs) (x ∷ xs) (vs ∷ vss) e h =
      contains_flat (λ v. map (λ q. Some v ∷ q) (choices (like qs xs) vss)) vs k (Some k ∷ qs) h.0
      (contains_mapped (λ q. Some k ∷ q) (choices (like qs xs) vss) qs
      (chosen qs xs vss (omega (arith, e)) h.1))
  chosen [] xs (vs ∷ vss) e h = absurd h
  chosen (None ∷ qs) xs [] e h = absurd h
  chosen (Some k ∷ qs) xs [] e h = absurd h
  chosen [] (x ∷ xs) [] e h = absurd (omega (arith, e))
  chosen (None ∷ qs) [] (vs ∷ vss) e h = absurd (omega (arith, e))
  chosen (Some k ∷ qs) [] (vs ∷ vss) e h = absurd (omega (arith, e))

  all_rolled_up : (qs : List (Option K)) → list_all is_none qs ≡ true → qs
      ≡ replicate (length qs) None
  all_rolled_up [] e = refl
  all_rolled_up (None ∷ qs) e = ap (λ r. None ∷ r) (all_rolled_up qs e)
  all_rolled_up (Some k ∷ qs) e = absurd (true≢false (sym e))

  module _ (rows : List (List K)) (vss : List (List K)) (updates : ℕ)
      (few : length rows ≤ updates) where
    abbrev counts : List ℕ
    counts = sizes vss

    -- a list that has every group of a grouping
    abbrev cover : List (Option ℕ) → List (List (Option K))
    cover ms = if list_all is_none ms then replicate (length vss) None ∷ []
        else (if nat_le updates (lists_of ms) then map (cut_like ms) rows else choices ms vss)

    length-cover : (ms : List (Option ℕ)) → IsMasked ms counts
        → length (cover ms) ≤ rows_of_grouping updates ms
    unfolding rows_of_grouping
    length-cover ms h = grind (arith, common_steps, is_none, lists_of, length-map, length-choices)

    -- a group of some rows each of whose keys that is shown has one of its values
    abbrev pub IsOne : List (Option K) → Type 0
    IsOne qs = ((ks : List K) × Contains rows ks × IsMasked qs ks × AreAmong qs vss)
        ⊎ (qs ≡ replicate (length vss) None)

    covers : (qs : List (Option K)) → length qs ≡ length vss → IsOne qs
        → Contains (cover (like qs counts)) qs
    covers qs e one = by (list_all is_none (like qs counts)) refl
      where
        same : length qs ≡ length counts
        same = e ∙ sym (length-sizes vss)

        hidden : list_all is_none (like qs counts) ≡ list_all is_none qs
        hidden = like_none qs counts same

        shown : (least : Bool) → list_all is_none qs ≡ false
            → Contains (if least then map (cut_like (like qs counts)) rows
            else choices (like qs counts) vss) qs
        shown least none = ⊎_elim
            {C = Contains (if least then map (cut_like (like qs counts)) rows
            else choices (like qs counts) vss) qs}
            (λ h. of_row least h.0 h.1 h.2 h.3)
            (λ h. absurd (true≢false
            (sym (ap (list_all is_none) h ∙ hidden_none K (length vss)) ∙ none)))
            one
          where
            of_row : (least : Bool) (ks : List K) → Contains rows ks → IsMasked qs ks
                → AreAmong qs vss → Contains (if least then map
                (cut_like (like qs counts)) rows else choices (like qs counts) vss) qs
            of_row true ks c m among = subst (Contains (map (cut_like (like qs counts)) rows))
                (cut_again qs counts ks same m)
                (contains_mapped (cut_like (like qs counts)) rows ks c)
            of_row false ks c m among = chosen qs counts vss same among

        by : (none : Bool) → list_all is_none (like qs counts) ≡ none
            → Contains (if none then replicate (length vss) None ∷ []
            else (if nat_le updates (lists_of (like qs counts))
            then map (cut_like (like qs counts)) rows
            else choices (like qs counts) vss)) qs
        by true h = subst (Contains (replicate (length vss) None ∷ []))
            (ap (λ n. replicate n None) (sym e) ∙ sym (all_rolled_up qs (sym hidden ∙ h)))
            (contains_here (replicate (length vss) None) [])
        by false h = shown (nat_le updates (lists_of (like qs counts))) (sym hidden ∙ h)

    length-covers : (mss : List (List (Option ℕ)))
        → ((m : List (Option ℕ)) → Contains mss m → IsMasked m counts)
        → length (flat_map cover mss) ≤ sum_by (rows_of_grouping updates) mss
    length-covers [] each = omega arith
    length-covers (ms ∷ mss) each =
        grind (
          arith,
          common_steps,
          length-cover,
          contains_here,
          contains_later,
          length-append,
          sum_by-cons,
          rows_of_grouping,
          length-covers mss (λ m c. each m (contains_later ms mss m c)),
        )

    -- a list that has every group of a shape
    abbrev every : Shape → List (List (Option K))
    every s = flat_map cover (filter (is_grouping s) (masks counts))

    length-every : (s : Shape) → length (every s) ≤ rows_of_groupings s updates counts
    length-every s = length-covers (filter (is_grouping s) (masks counts))
        (λ m c. among_mask counts m (passing_contains (is_grouping s) (masks counts) m c))

    in_every : (s : Shape) (qs : List (Option K)) → length qs ≡ length vss → is_grouping s qs ≡ true
        → IsOne qs → Contains (every s) qs
    in_every s qs e grouping one =
        let same : length qs ≡ length counts = e ∙ sym (length-sizes vss) in
        contains_flat cover (filter (is_grouping s) (masks counts)) (like qs counts) qs
        (contains_passing (is_grouping s) (masks counts) (like qs counts)
        (mask_among (like qs counts) counts (like_masked qs counts same))
        (like_grouping s qs counts same ∙ grouping)) (covers qs e one)

-- ---- groups of keys, no two of them the same

pub few_groups : (s : Shape) (rows vss : List (List KeyValue)) (updates : ℕ)
    (few : length rows ≤ updates)
    → (groups : List (List (Option KeyValue))) → IsDistinct key_eq groups
    → ((qs : List (Option KeyValue)) → Contains groups qs → (length qs ≡ length vss)
    × (is_grouping s qs ≡ true) × IsOne rows vss updates few qs)
    → length groups ≤ rows_of_groupings s updates (sizes vss)
few_groups s rows vss updates few groups distinct each = le_trans
    (length-le_from_is_member key_equiv groups (every rows vss updates few s) distinct
    (λ q h. let one = each q (Contains-from_any (λ a b. (key_decides a b).0) q groups h) in
    list_any-from_Contains key_equiv q (every rows vss updates few s)
    (in_every rows vss updates few s q one.0 one.1 one.2))) (length-every rows vss updates few s)
