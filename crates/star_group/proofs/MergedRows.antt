-- One more row merged into those of some keys.
use Rattle.star_group.proofs.{Common.{Entry, Row, RowKey, ◌≡◌, ◌⊎◌, inl, inr, ℕ, zero, suc, ◌+◌, ◌<◌, Bool, true, false, ◌||◌, List, [], ◌∷◌, Option, Some, None, length, get_or, take, map, MatchBool, ap, sym, ◌∙◌, subst, refl, true≢false, arith, list_any, IsDistinct, unwrap_or, get_or-map, length-map, list_any_at, list_any_more, apart_from_distinct, IsDistinct-tail, or_parts, Aggregate, KeyPart, KeyedRows, key_view, row_found, key_eq, IsMergedAt, IsMergedInto, MergeLeaves, MergeStays, RowsStay, AreNarrow, HasSpace, IsNarrow, mul-le-mul_right, get_or_default, at_each, ◌≤◌, AllStay, MergesAll, SomeLeaves}, Bases.{base_row, other_row}, GroupKeys.{key_decides, key_equiv}}

-- ---- one more key of a list without repeats

abbrev pub among : List RowKey → RowKey → Bool
among own q = list_any (key_eq q) own

-- an element is not among those before it
fresh_at : (own : List RowKey) (i : ℕ) (d : RowKey) → IsDistinct key_eq own → i < length own
    → list_any (key_eq (get_or own i d)) (take i own) ≡ false
fresh_at [] i d distinct h = absurd (omega (arith, h))
fresh_at (x ∷ xs) zero d distinct h = refl
fresh_at (x ∷ xs) (suc j) d distinct h =
    let k : RowKey = get_or xs j d in
    let apart : key_eq x k ≡ false =
    apart_from_distinct key_eq (x ∷ xs) 0 (suc j) d distinct (omega arith) h in
    ap (λ b. b || list_any (key_eq k) (take j xs)) (key_equiv.symm k x ∙ apart)
    ∙ fresh_at xs j d (IsDistinct-tail key_eq x xs distinct) (omega (arith, h))

pub key_here : (own : List (List KeyPart)) (i : ℕ) → i < length own
    → get_or (map key_view own) i (key_view (get_or own i [])) ≡ key_view (get_or own i [])
key_here own i h = get_or-map key_view own i [] (key_view (get_or own i [])) h

pub key_within : (own : List (List KeyPart)) (i : ℕ) → i < length own
    → i < length (map key_view own)
key_within own i h = omega (arith, h, length-map own key_view)

module _ (own : List RowKey) (i : ℕ) (key : RowKey)
    (within : i < length own) (here : get_or own i key ≡ key) where
  among_here : list_any (key_eq key) own ≡ true
  among_here = list_any_at (key_eq key) own i key within (ap (key_eq key) here ∙ key_equiv.refl key)

  fresh : IsDistinct key_eq own → list_any (key_eq key) (take i own) ≡ false
  fresh distinct = subst (λ k. list_any (key_eq k) (take i own) ≡ false) here
      (fresh_at own i key distinct within)

  -- a key among the first i + 1 is among the first i, or is the one at i
  split : (q : RowKey) → list_any (key_eq q) (take (i + 1) own) ≡ true
      → (list_any (key_eq q) (take i own) ≡ true) ⊎ (q ≡ key)
  split q e = by (list_any (key_eq q) (take i own)) refl
    where
      by : (b : Bool) → list_any (key_eq q) (take i own) ≡ b
          → (list_any (key_eq q) (take i own) ≡ true) ⊎ (q ≡ key)
      by true p = inl p
      by false p = inr ((key_decides q (get_or own i key)).0
          (sym (ap (λ b. b || key_eq q (get_or own i key)) p)
          ∙ sym (list_any_more (key_eq q) own i key within) ∙ e) ∙ here)

  not_among : (q : RowKey) → list_any (key_eq q) (take (i + 1) own) ≡ false
      → (list_any (key_eq q) (take i own) ≡ false) × (key_eq q key ≡ false)
  not_among q none =
      let both = or_parts _ _ (sym (list_any_more (key_eq q) own i key within) ∙ none) in
      (both.0, ap (key_eq q) (sym here) ∙ both.1)

  module _ (gs : List Aggregate) (more : Row) where
    -- whether the row at i stays tells whether those of the first i + 1 keys do
    pub told_more : (look : RowKey → Option Row) → AllStay look (among (take i own)) gs more
        → (stays : Bool) → MatchBool stays (MergeStays gs (unwrap_or (look key) []) more)
        (MergeLeaves gs (unwrap_or (look key) []) more)
        → MatchBool stays (AllStay look (among (take (i + 1) own)) gs more)
        (SomeLeaves look (among own) gs more)
    told_more look so_far it leaves = grind (arith, among_here, split)

    stays_found : (found : Option Row) → MergeStays gs (unwrap_or found []) more
        → RowsStay gs found more
    stays_found None h = tt
    stays_found (Some row) h = h

    module _ (distinct : IsDistinct key_eq own) (old : RowKey → Option Row) (es : List Entry)
        (so_far : MergesAll (among (take i own)) gs more old (row_found es)) where
      found_here : row_found es key ≡ old key
      found_here = so_far.same key (fresh distinct)

      pub stays_here : AllStay old (among own) gs more → RowsStay gs (row_found es key) more
      stays_here all = subst (λ found. RowsStay gs found more) (sym found_here)
          (stays_found (old key) (all.stay key among_here))

      pub merges_more : (fs : List Entry) → IsMergedAt gs key more es fs
          → MergesAll (among (take (i + 1) own)) gs more old (row_found fs)
      merges_more fs at = record {
        changed = λ q e. by q (split q e);
        same = λ q none. let both = not_among q none in
            other_row gs key more es fs at q both.1 ∙ so_far.same q both.0;
      }
        where
          apart : (q : RowKey) → list_any (key_eq q) (take i own) ≡ true → key_eq q key ≡ false
          apart q earlier = is (key_eq q key) refl
            where
              is : (b : Bool) → key_eq q key ≡ b → key_eq q key ≡ false
              is false e = e
              is true e = absurd (true≢false
                  (sym earlier ∙ ap (λ k. list_any (key_eq k) (take i own))
                  ((key_decides q key).0 e) ∙ fresh distinct))

          by : (q : RowKey) → (list_any (key_eq q) (take i own) ≡ true) ⊎ (q ≡ key)
              → IsMergedInto gs more (old q) (row_found fs q)
          by q (inl earlier) = subst (IsMergedInto gs more (old q))
              (sym (other_row gs key more es fs at q (apart q earlier))) (so_far.changed q earlier)
          by q (inr same) = subst (λ k. IsMergedInto gs more (old k) (row_found fs k)) (sym same)
              (subst (λ found. IsMergedInto gs more found (row_found fs key)) found_here
              (base_row gs key more es fs at key refl))

pub narrow_at : (width : ℕ) (keys : List (List KeyPart)) (i : ℕ) (d : List KeyPart)
    → i < length keys → AreNarrow width keys → IsNarrow width (get_or keys i d)
narrow_at width keys i d h are =
    at_each (IsNarrow width) keys (get_or keys i d) are (i, h, get_or_default keys i _ d h)

-- room for some rows is room for one
pub fewer_space : (rows : KeyedRows) (count : ℕ) → 1 ≤ count → HasSpace rows count → HasSpace rows 1
fewer_space rows count some space = grind (arith, mul-le-mul_right)
