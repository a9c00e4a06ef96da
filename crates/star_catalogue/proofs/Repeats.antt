-- The first key of a list that an earlier one equals.
use Rattle.std.{proofs.Common.{◌≡◌, ◌≢◌, ◌↔◌, ◌+◌, ◌<◌, ◌≤◌, ◌++◌, ℕ, List, [], ◌∷◌, AllPairs, Bool, true, false, cond, Option, Some, None, drop, get_or, length, map, take, refl, sym, ap, ◌∙◌, inl, inr, arith, length-take, true≢false}, proofs.lemmas.List.{get_or_default, get_or-take, length-take-le, take_all, take_more, take-map}, proofs.lemmas.Bool.cases_Bool, proofs.lemmas.List.Folds.{list_any_at, list_any_none}, proofs.lemmas.List.FromFn.{get_or-enumerate_from, length-enumerate_from}, proofs.lemmas.Map.Keys.{any_passes_from_place, IsDistinct-push}, proofs.lemmas.Option.{get_or_from_slice_get, slice_get-get_or, slice_get_within}, specs.Bool.Decides, specs.Cmp.IsEquivalence, specs.List.{enumerate_from, list_any, slice_get, IsDistinct}}
use Rattle.star_common.{specs.First.first_answer, proofs.Firsts.{all_without_answer, enumerated_at, first_answer_here, first_answer_none, first_answer_on}}
use Rattle.star_flat.proofs.Pushed.{pushed_before, pushed_cases, pushed_here}
use Rattle.star_catalogue.specs.{Private.Indexes.AreIndexes, Private.Indexes.StandsAt, Load.first_repeat, Load.repeat_at}

abbrev pub repeats_from : {K : Type 0} → (K → K → Bool) → List K → ℕ → Option ℕ
repeats_from same keys index =
    first_answer (λ (p, k). repeat_at same keys p k) (drop index (enumerate_from 0 keys))

-- no key before a position repeats an earlier one
pub record NoneRepeats {K : Type 0} (same : K → K → Bool) (keys : List K)
    (index : ℕ) : Type 0 where
  pub no_repeat : first_repeat same keys ≡ repeats_from same keys index
  pub unique : IsDistinct same (take index keys)

-- what leads from the keys before a position to where they stand, and none of them repeats an
-- earlier
pub record HasInserted {K : Type 0} (same : K → K → Bool) (keys : List K) (index : ℕ)
    (position_of : K → Option ℕ) : Type 0 where
  pub indexes : AreIndexes same position_of (take index keys)
  pub none : NoneRepeats same keys index

module _ {K : Type 0} (same : K → K → Bool) (laws : IsEquivalence same) (keys : List K) where
  numbered : (index : ℕ) (key : K) → slice_get keys index ≡ Some key
      → slice_get (enumerate_from 0 keys) index ≡ Some (index, key)
  numbered index key at = let same_index : 0 + index ≡ index =
      omega arith in enumerated_at 0 keys index key at ∙ ap (λ (p : ℕ). Some (p, key)) same_index

  one_more : (index : ℕ) (key : K) → slice_get keys index ≡ Some key
      → take (index + 1) keys ≡ take index keys ++ key ∷ []
  one_more index key at =
      take_more keys index key (slice_get_within keys index key at)
      ∙ ap (λ k. take index keys ++ k ∷ []) (get_or_from_slice_get keys index key key at)

  pub none_yet_repeats : NoneRepeats same keys 0
  unfolding first_repeat IsDistinct
  none_yet_repeats = record { no_repeat = refl; unique = tt }

  -- one more key, which is new
  pub new_more : (index : ℕ) (key : K) → NoneRepeats same keys index
      → slice_get keys index ≡ Some key
      → list_any (same key) (take index keys) ≡ false → NoneRepeats same keys (index + 1)
  new_more index key h at fresh =
      let no : repeat_at same keys index key ≡ None = rw fresh refl in
      record {
        no_repeat = h.no_repeat
            ∙ first_answer_on (λ (p, k). repeat_at same keys p k) (enumerate_from 0 keys) index
            (index, key) (numbered index key at) no;
        unique = rw (one_more index key at)
            (IsDistinct-push laws (take index keys) key h.unique fresh);
      }

  -- a key that repeats an earlier one
  pub repeats_first : (index : ℕ) (key : K) → NoneRepeats same keys index
      → slice_get keys index ≡ Some key → list_any (same key) (take index keys) ≡ true
      → first_repeat same keys ≡ Some (index + 1)
  repeats_first index key h at there =
      let some : repeat_at same keys index key ≡ Some (index + 1) = rw there refl in
      h.no_repeat ∙ first_answer_here (λ (p, k). repeat_at same keys p k)
      (enumerate_from 0 keys) index (index, key) (index + 1) (numbered index key at) some

  pub no_indexes : (position_of : K → Option ℕ) → ((key : K) → position_of key ≡ None)
      → AreIndexes same position_of (take 0 keys)
  no_indexes position_of none = record {
    found = λ key index. (
      λ e. absurd (cc (none key, e)),
      λ at. absurd (let within = slice_get_within [] index at.stored at.there in omega arith),
    );
  }

  pub nothing_inserted : (position_of : K → Option ℕ) → ((key : K) → position_of key ≡ None)
      → HasInserted same keys 0 position_of
  nothing_inserted position_of none =
      record { indexes = no_indexes position_of none; none = none_yet_repeats }

  -- a key that leads to no position is none of the earlier ones
  fresh_key : (index : ℕ) (key : K) (position_of : K → Option ℕ)
      → AreIndexes same position_of (take index keys) → position_of key ≡ None
      → list_any (same key) (take index keys) ≡ false
  fresh_key index key position_of h none =
      list_any_none (same key) (take index keys) (λ k d within.
      elim (cases_Bool (same key (get_or (take index keys) k d))) [
        | inl equal ↦
            let found = (h.found key k).1 (record {
              stored = get_or (take index keys) k d;
              there = slice_get-get_or (take index keys) k d within;
              equal = equal;
            }) in
            absurd (cc (none, found))
        | inr other ↦ other
      ])

  -- and one of the earlier ones leads to where it stands
  old_key : (index n : ℕ) (key : K) (position_of : K → Option ℕ)
      → AreIndexes same position_of (take index keys) → position_of key ≡ Some n
      → list_any (same key) (take index keys) ≡ true
  old_key index n key position_of h is =
      let stands = (h.found key n).0 is in
      any_passes_from_place (same key) (take index keys) n stands.stored stands.there stands.equal

  -- the position of one more key, which is new
  pub indexes_more : (index : ℕ) (key : K) (old new : K → Option ℕ)
      → AreIndexes same old (take index keys) → slice_get keys index ≡ Some key
      → list_any (same key) (take index keys) ≡ false
      → ((q : K) → new q ≡ cond (same key q) (Some index) (old q))
      → AreIndexes same new (take (index + 1) keys)
  indexes_more index key old new h at fresh step =
      let within = slice_get_within keys index key at in
      let count : length (take index keys) ≡ index = length-take-le index keys (omega arith) in
      rw (one_more index key at) (record { found = found count })
    where
      found : length (take index keys) ≡ index → (q : K) (n : ℕ)
          → (new q ≡ Some n) ↔ StandsAt same (take index keys ++ key ∷ []) n q
      found count q n = elim (cases_Bool (same key q)) [
        | inl equal ↦
            let is : new q ≡ Some index = rw equal at (step q) in (
              λ e.
                  let here : index ≡ n = cc (is, e) in
                  record {
                    stored = key;
                    there = ap (slice_get (take index keys ++ key ∷ [])) (sym here ∙ sym count)
                        ∙ pushed_here (take index keys) key;
                    equal = laws.symm q key ∙ equal;
                  },
              λ stands. elim (pushed_cases (take index keys) key n stands.stored stands.there) [
                | inl earlier ↦
                    let again : same key stands.stored ≡ true =
                    sym (laws.congr q key stands.stored (laws.symm q key ∙ equal))
                    ∙ stands.equal in
                    let any = any_passes_from_place (same key) (take index keys) n stands.stored
                    earlier again in
                    absurd (true≢false (sym any ∙ fresh))
                | inr here ↦ is ∙ ap Some (sym (here.0 ∙ count))
              ],
            )
        | inr other ↦
            let is : new q ≡ old q = rw other at (step q) in (
              λ e.
                  let stands = (h.found q n).0 (sym is ∙ e) in
                  record {
                    stored = stands.stored;
                    there = pushed_before (take index keys) key n stands.stored stands.there;
                    equal = stands.equal;
                  },
              λ stands. elim (pushed_cases (take index keys) key n stands.stored stands.there) [
                | inl earlier ↦ is ∙ (h.found q n).1
                    (record { stored = stands.stored; there = earlier; equal = stands.equal })
                | inr here ↦
                    let equal : same q key ≡ true = ap (same q) here.1 ∙ stands.equal in
                    absurd (true≢false (sym (laws.symm key q ∙ equal) ∙ other))
              ],
            )
      ]

  -- one more key, which is new
  pub inserted_more : (index : ℕ) (key : K) (old new : K → Option ℕ)
      → HasInserted same keys index old → slice_get keys index ≡ Some key → old key ≡ None
      → ((q : K) → new q ≡ cond (same key q) (Some index) (old q))
      → HasInserted same keys (index + 1) new
  inserted_more index key old new h at none step =
      let fresh = fresh_key index key old h.indexes none in
      record {
        indexes = indexes_more index key old new h.indexes at fresh step;
        none = new_more index key h.none at fresh;
      }

  -- a key that repeats an earlier one
  pub inserted_before : (index n : ℕ) (key : K) (old : K → Option ℕ)
      → HasInserted same keys index old → slice_get keys index ≡ Some key → old key ≡ Some n
      → first_repeat same keys ≡ Some (index + 1)
  inserted_before index n key old h at is =
      repeats_first index key h.none at (old_key index n key old h.indexes is)

  pub all_inserted : (position_of : K → Option ℕ) (index : ℕ) → length keys ≤ index
      → HasInserted same keys index position_of
      → AreIndexes same position_of keys × IsDistinct same keys
  all_inserted position_of index all h =
      let whole : take index keys ≡ keys = take_all index keys all in
      (rw whole at h.indexes, rw whole at h.none.unique)

any-map : {K L : Type 0} (test : K → Bool) (other : L → Bool) (f : K → L)
    → ((k : K) → other (f k) ≡ test k)
    → (ks : List K) → list_any other (map f ks) ≡ list_any test ks
any-map test other f agree [] = refl
any-map test other f agree (k ∷ ks) = rw (agree k, any-map test other f agree ks) refl

repeat_at-map : {K L : Type 0} (same : K → K → Bool) (other : L → L → Bool) (f : K → L)
    → ((a b : K) → other (f a) (f b) ≡ same a b) → (keys : List K) (index : ℕ) (key : K)
    → repeat_at other (map f keys) index (f key) ≡ repeat_at same keys index key
repeat_at-map same other f agree keys index key =
    let any : list_any (other (f key)) (take index (map f keys))
    ≡ list_any (same key) (take index keys) =
    rw (take-map f index keys)
    (any-map (same key) (other (f key)) f (agree key) (take index keys)) in
    rw any refl

repeats_from-map : {K L : Type 0} (same : K → K → Bool) (other : L → L → Bool) (f : K → L)
    → ((a b : K) → other (f a) (f b) ≡ same a b) → (keys : List K) (n : ℕ) (ks : List K)
    → first_answer (λ (p, k). repeat_at other (map f keys) p k) (enumerate_from n (map f ks))
    ≡ first_answer (λ (p, k). repeat_at same keys p k) (enumerate_from n ks)
unfolding first_answer
repeats_from-map same other f agree keys n [] = refl
repeats_from-map same other f agree keys n (k ∷ ks) =
    rw (
      repeat_at-map same other f agree keys n k,
      repeats_from-map same other f agree keys (n + 1) ks,
    ) refl

-- keys that are compared as others are repeat where those do
pub first_repeat-map : {K L : Type 0} (same : K → K → Bool) (other : L → L → Bool) (f : K → L)
    → ((a b : K) → other (f a) (f b) ≡ same a b) → (keys : List K)
    → first_repeat other (map f keys) ≡ first_repeat same keys
unfolding first_repeat
first_repeat-map same other f agree keys = repeats_from-map same other f agree keys 0 keys

-- different keys are none of the earlier ones
pub apart_before : {K : Type 0} (same : K → K → Bool) → ((a b : K) → Decides (same a b) (a ≡ b))
    → (keys : List K) → AllPairs (λ a b. a ≢ b) keys → (i : ℕ) (d : K) → i < length keys
    → list_any (same (get_or keys i d)) (take i keys) ≡ false
apart_before same decides keys apart i d few =
    list_any_none (same (get_or keys i d)) (take i keys) (λ j e before.
    let earlier : j < i = omega (arith, before, length-take i keys) in
    let is : get_or (take i keys) j e ≡ get_or keys j d =
    get_or-take i keys j e earlier ∙ get_or_default keys j e d (omega arith) in
    elim (cases_Bool (same (get_or keys i d) (get_or (take i keys) j e))) [
      | inl equal ↦
          absurd (apart j i d earlier few
          (sym is ∙ sym ((decides (get_or keys i d) (get_or (take i keys) j e)).0 equal)))
      | inr other ↦ other
    ])

-- different keys do not repeat
pub apart_no_repeat : {K : Type 0} (same : K → K → Bool) → ((a b : K) → Decides (same a b) (a ≡ b))
    → (keys : List K) → AllPairs (λ a b. a ≢ b) keys → first_repeat same keys ≡ None
unfolding first_repeat
apart_no_repeat same decides keys apart =
    first_answer_none (λ (p, k). repeat_at same keys p k) (enumerate_from 0 keys) (λ i d within.
    let few : i < length keys = omega (arith, within, length-enumerate_from 0 keys) in
    let same_index : 0 + i ≡ i = omega arith in
    rw (
      get_or-enumerate_from 0 keys i d few,
      same_index,
      apart_before same decides keys apart i d.1 few,
    ) refl)

-- where no key repeats, all differ
pub no_repeat_apart : {K : Type 0} (same : K → K → Bool) → ((a b : K) → Decides (same a b) (a ≡ b))
    → (keys : List K) → first_repeat same keys ≡ None → AllPairs (λ a b. a ≢ b) keys
unfolding first_repeat
no_repeat_apart same decides keys none i j d before within equal =
    let all = all_without_answer (λ (p, k). repeat_at same keys p k) (enumerate_from 0 keys) none in
    let here : repeat_at same keys (0 + j) (get_or keys j d) ≡ None =
    rw (get_or-enumerate_from 0 keys j (0, d) within) at
    (all j (0, d) (omega (arith, within, length-enumerate_from 0 keys))) in
    let at_position : repeat_at same keys j (get_or keys j d) ≡ None =
    let same_index : 0 + j ≡ j = omega arith in rw same_index at here in
    let earlier : same (get_or keys j d) (get_or (take j keys) i d) ≡ true =
    rw (get_or-take j keys i d before)
    ((decides (get_or keys j d) (get_or keys i d)).1 (sym equal)) in
    let found : list_any (same (get_or keys j d)) (take j keys) ≡ true =
    list_any_at (same (get_or keys j d)) (take j keys) i d
    (omega (arith, before, within, length-take j keys)) earlier in
    let bad : Some (j + 1) ≡ None = rw found at at_position in
    absurd (cc bad)
