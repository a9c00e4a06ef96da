-- The rows with one more position that may be ALL.
use Rattle.star_group.{proofs.Common.{Entry, Row, RowKey, ◌≡◌, ℕ, zero, suc, ◌+◌, ◌-◌, ◌<◌, ◌≤◌, Bool, true, false, ◌&&◌, ◌||◌, List, [], ◌∷◌, ◌++◌, Option, Some, None, length, get_or, set, slice_get, map, take, drop, ap, sym, ◌∙◌, subst, refl, true≢false, arith, MatchBool, filter, list_any, Contains, AllByRecursion, append_cancel_left, list_any-append, filter-append, slice_get-get_or, place_from_lookup, any_passes_from_place, list_any-from_Contains, at_each, of_each, KeyValue, KeyPart, IsRowOver, key_view, row_found, has_puts, key_eq, vary, IsMergedWhere, IsRolledUp, IsRolledUpWithRoom, NoneCoarser, RollsUp, first_finer, is_among, keys_from, IsMergedAt, RowsStay, group_with, is_row_key, Aggregate, Shape, Plain, Cube, Rollup, is_grouping, finer, ∥∥₁_elim, ∥∥₁_map, Bool-set, and-or_distrib_left, both_ways, take-length, and_parts, Update, Group, AreOnce, length-take-le, get_or-append, get_or-take, get_or_append_left}, proofs.BaseKeyLemmas.{kept_before, length-padded, one_more, set_there, vary-more}, proofs.Filters.filter_each, proofs.Passes.{AreApart, AreOver, any_mapped, comes, disjoint, joined, left_out, merged_one, none_yet, so_far, some_at, stays_one}, proofs.GivenGroups.mapped, proofs.GroupKeys.{key_decides, key_equiv}, proofs.KeyedRows.{once_at, once_joined, row_once}, proofs.Merging.{has_put, put_of}, specs.BaseKeys.padded}

-- ---- the keys of one put's rows

abbrev pub hide : ℕ → RowKey → RowKey
hide index k = set k index None

module _ (index count : ℕ) (ks : List KeyValue) (within : index < count) (few : count ≤ 6) where
  wide : index < length (padded 6 ks)
  wide = omega (arith, length-padded 6 ks)

  pub keys_more : keys_from (index + 1) count ks
      ++ map (hide index) (keys_from (index + 1) count ks) ≡ keys_from index count ks
  keys_more =
      let later : count - index ≡ suc (count - suc index) = omega arith in
      let next : index + 1 ≡ suc index = omega arith in
      rw (later, next) (vary-more (padded 6 ks) index (count - suc index) _ wide refl)

  -- a key is one of these: the first keys are the put's
  record Begins (k : RowKey) : Type 0 where
    pub rest : RowKey
    pub is : k ≡ take (suc index) (padded 6 ks) ++ rest

  begins : (k : RowKey) → list_any (key_eq k) (keys_from (index + 1) count ks) ≡ true → Begins k
  begins k h =
      let next : index + 1 ≡ suc index = omega arith in
      let some = some_at (key_eq k) (keys_from (index + 1) count ks) h in
      let at = mapped (λ rest. take (index + 1) (padded 6 ks) ++ rest)
      (vary (count - (index + 1)) (drop (index + 1) (padded 6 ks))) some.0 some.1 some.2 in
      record {
        rest = at.0;
        is = (key_decides k some.1).0 some.3 ∙ sym at.2
            ∙ ap (λ n. take n (padded 6 ks) ++ at.0) next;
      }

  hidden_is : (k : RowKey) (b : Begins k) → hide index k ≡ take index (padded 6 ks) ++ None ∷ b.rest
  hidden_is k b = ap (hide index) b.is ∙ set_there (padded 6 ks) index None b.rest wide

-- a hidden key and the one that is shown in its position, behind keys that are shown
record Apart (count : ℕ) (hides shows : RowKey) : Type 0 where
  pub shown : List KeyValue
  pub key : KeyValue
  pub rest : RowKey
  pub hidden_key : take count hides ≡ map Some shown ++ (None ∷ rest)
  pub shown_key : take count shows ≡ map Some shown ++ (Some key ∷ rest)

apart_at : (n count index : ℕ) (ks : List KeyValue) (rest : RowKey)
    → index < length ks → length ks ≤ n → index < count
    → Apart count (take index (padded n ks) ++ None ∷ rest) (take (suc index) (padded n ks) ++ rest)
unfolding padded
apart_at n count index [] rest h few within = absurd (omega (arith, h))
apart_at zero count index (k ∷ ks) rest h few within = absurd (omega (arith, few))
apart_at (suc n) zero index (k ∷ ks) rest h few within = absurd (omega (arith, within))
apart_at (suc n) (suc count) zero (k ∷ ks) rest h few within =
    record { shown = []; key = k; rest = take count rest; hidden_key = refl; shown_key = refl }
apart_at (suc n) (suc count) (suc index) (k ∷ ks) rest h few within =
    let a = apart_at n count index ks rest (omega (arith, h)) (omega (arith, few))
    (omega (arith, within)) in
    record {
      shown = k ∷ a.shown;
      key = a.key;
      rest = a.rest;
      hidden_key = ap (λ q. Some k ∷ q) a.hidden_key;
      shown_key = ap (λ q. Some k ∷ q) a.shown_key;
    }

-- where the coarser key is a grouping, so is the key
finer_key : (s : Shape) (index count : ℕ) (ks : List KeyValue) (within : index < count)
    (few : count ≤ 6) → length ks ≡ count → (k : RowKey) (b : Begins index count ks within few k)
    → is_grouping s (take count (hide index k)) ≡ true → is_grouping s (take count k) ≡ true
finer_key s index count ks within few fits k b h =
    let a = apart_at 6 count index ks b.rest (omega (arith, within, fits))
    (omega (arith, few, fits)) within in
    let hides : take count (hide index k) ≡ map Some a.shown ++ (None ∷ a.rest) =
    ap (take count) (hidden_is index count ks within few k b) ∙ a.hidden_key in
    ap (is_grouping s) (ap (take count) b.is ∙ a.shown_key)
    ∙ finer s a.shown a.key a.rest (sym (ap (is_grouping s) hides) ∙ h)

-- the keys of a put's rows, with one position more that may be hidden
pub row_keys_more : (s : Shape) (index count : ℕ) (ks : List KeyValue) → index < count → count ≤ 6
    → length ks ≡ count → (xs ys : List RowKey)
    → xs ≡ filter (is_row_key s count) (keys_from (index + 1) count ks)
    → ys ≡ xs ++ filter (is_row_key s count) (map (hide index) xs)
    → ys ≡ filter (is_row_key s count) (keys_from index count ks)
row_keys_more s index count ks within few fits xs ys e f =
    let own : List RowKey = keys_from (index + 1) count ks in
    let G : RowKey → Bool = is_row_key s count in
    let left = kept_before G (hide index) own
    (of_each _ own (λ k c h. finer_key s index count ks within few fits k
    (begins index count ks within few k (list_any-from_Contains key_equiv k own c)) h)) in
    f ∙ (λ i. e i ++ filter G (map (hide index) (e i))) ∙ ap (λ l. filter G own ++ l) (sym left)
    ∙ sym (filter-append G own (map (hide index) own))
    ∙ ap (filter G) (keys_more index count ks within few)

shown_key : (n : ℕ) (ks : List KeyValue) (p : ℕ) → p < length ks → length ks ≤ n
    → get_or (padded n ks) p None ≡ None → ⊥
unfolding padded
shown_key n [] p h few e = omega (arith, h)
shown_key zero (k ∷ ks) p h few e = omega (arith, few)
shown_key (suc n) (k ∷ ks) zero h few e = cc e
shown_key (suc n) (k ∷ ks) (suc p) h few e =
    shown_key n ks p (omega (arith, h)) (omega (arith, few)) e

hidden_none : (k : RowKey) (index : ℕ) → get_or (hide index k) index None ≡ None
hidden_none [] index = refl
hidden_none (x ∷ k) zero = refl
hidden_none (x ∷ k) (suc index) = hidden_none k index

in_keys : (s : Shape) (index count : ℕ) (q : RowKey) (ks : List KeyValue)
    → is_among s index count q ks ≡ true → list_any (key_eq q) (keys_from index count ks) ≡ true
in_keys s index count q ks h =
    (and_parts (is_grouping s (take count q)) (list_any (key_eq q) (keys_from index count ks)) h).1

pub keys_apart : (s : Shape) (us : List Update) (index count : ℕ) → index < count → count ≤ 6
    → AllByRecursion (λ u. length u.keys ≡ count) us
    → AreApart us (λ q ks. is_among s (index + 1) count q ks) (hide index)
keys_apart s us index count within few fit = record {
  differ = λ u c k l in_k in_l same.
      differ u c k l (in_keys s (index + 1) count k u.keys in_k)
      (in_keys s (index + 1) count l u.keys in_l) same;
  new = λ u w c k in_k in_hidden.
      new u w c k (in_keys s (index + 1) count k u.keys in_k)
      (in_keys s (index + 1) count (hide index k) w.keys in_hidden);
}
  where
    differ : (u : Update) → Contains us u → (k l : RowKey)
        → list_any (key_eq k) (keys_from (index + 1) count u.keys) ≡ true
        → list_any (key_eq l) (keys_from (index + 1) count u.keys) ≡ true
        → hide index k ≡ hide index l → k ≡ l
    differ u c k l in_k in_l same =
        let b = begins index count u.keys within few k in_k in
        let d = begins index count u.keys within few l in_l in
        let both : take index (padded 6 u.keys) ++ (None ∷ b.rest)
        ≡ take index (padded 6 u.keys) ++ (None ∷ d.rest) =
        sym (hidden_is index count u.keys within few k b) ∙ same
        ∙ hidden_is index count u.keys within few l d in
        let tails : None ∷ b.rest ≡ None ∷ d.rest =
        append_cancel_left (take index (padded 6 u.keys)) (None ∷ b.rest) (None ∷ d.rest)
        both in
        let rests : b.rest ≡ d.rest = cc tails in
        b.is ∙ ap (λ r. take (suc index) (padded 6 u.keys) ++ r) rests ∙ sym d.is

    new : (u w : Update) → Contains us w → (k : RowKey)
        → list_any (key_eq k) (keys_from (index + 1) count u.keys) ≡ true
        → list_any (key_eq (hide index k)) (keys_from (index + 1) count w.keys) ≡ true → ⊥
    new u w c k in_k in_hidden =
        let b = begins index count w.keys within few (hide index k) in_hidden in
        let fits : length w.keys ≡ count = at_each (λ v. length v.keys ≡ count) us w fit c in
        let long = wide index count w.keys within few in
        let first = length-take-le (suc index) (padded 6 w.keys) (omega (arith, long)) in
        let seen : get_or (hide index k) index None ≡ get_or (padded 6 w.keys) index None =
        ap (λ q. get_or q index None) b.is
        ∙ get_or-append (take (suc index) (padded 6 w.keys)) b.rest None index
        (omega (arith, first))
        ∙ get_or-take (suc index) (padded 6 w.keys) index None (omega arith) in
        shown_key 6 w.keys index (omega (arith, within, fits)) (omega (arith, few, fits))
        (sym seen ∙ hidden_none k index)

-- a hidden key and a shown one behind it are no grouping of a rollup
gap : (n count p : ℕ) (ks : List KeyValue) (rest : RowKey) → suc p < length ks → length ks ≤ n
    → suc p < count → is_grouping Rollup (take count
    (take p (padded n ks) ++ (None ∷ get_or (padded n ks) (suc p) None ∷ rest))) ≡ false
unfolding padded
gap n count p [] rest h few within = absurd (omega (arith, h))
gap zero count p (k ∷ ks) rest h few within = absurd (omega (arith, few))
gap (suc n) zero p (k ∷ ks) rest h few within = absurd (omega (arith, within))
gap (suc n) (suc zero) zero (k ∷ ks) rest h few within = absurd (omega (arith, within))
gap (suc n) (suc (suc count)) zero (k ∷ []) rest h few within = absurd (omega (arith, h))
gap (suc zero) (suc (suc count)) zero (k ∷ j ∷ ks) rest h few within = absurd (omega (arith, few))
gap (suc (suc n)) (suc (suc count)) zero (k ∷ j ∷ ks) rest h few within = refl
gap (suc n) (suc count) (suc p) (k ∷ ks) rest h few within =
    gap n count p ks rest (omega (arith, h)) (omega (arith, few)) (omega (arith, within))

-- ---- all rows merged in

module _ (d : Group) (us : List Update) (index : ℕ) (within : index < d.count) (few : d.count ≤ 6)
    (es : List Entry) (rolled : IsRolledUp d (index + 1) es us) where
  abbrev In : RowKey → List KeyValue → Bool
  In q ks = is_among d.shape (index + 1) d.count q ks

  abbrev Made : RowKey → Bool
  Made q = is_grouping d.shape (take d.count q)

  -- a put's row is there
  there : (u : Update) → Contains us u → (k : RowKey) → In k u.keys ≡ true
      → (i : ℕ) × (e : Entry) × (slice_get es i ≡ Some e) × (k ≡ key_view e.0)
  there u c k in_row = by (row_found es k) refl (rolled.rows k)
    where
      some : has_puts (filter (λ w. In k w.keys) us) ≡ true
      some = has_put (λ w. In k w.keys) us u c in_row

      by : (found : Option Row) → row_found es k ≡ found
          → IsRowOver d (filter (λ w. In k w.keys) us) found
          → (i : ℕ) × (e : Entry) × (slice_get es i ≡ Some e) × (k ≡ key_view e.0)
      by None e is = absurd (true≢false (sym some ∙ is))
      by (Some row) e is =
          let at = place_from_lookup (λ parts. key_eq k (key_view parts)) es row e in
          (at.0, (at.1, row), at.2, (key_decides k (key_view at.1)).0 at.3)

  fits_at : (u : Update) → Contains us u → length u.keys ≡ d.count
  fits_at u c = at_each (λ w. length w.keys ≡ d.count) us u rolled.fit c

  now_in : (q : RowKey) (u : Update) → Contains us u
      → (In q u.keys || so_far In Made (hide index) es (length es) q u.keys)
      ≡ is_among d.shape index d.count q u.keys
  now_in q u c =
      ap (λ fs. In q u.keys || list_any (comes In Made (hide index) q u.keys) fs) (take-length es)
      ∙ ap (λ b. In q u.keys || b) (both_ways _ _ forth back)
      ∙ sym (and-or_distrib_left (Made q) (list_any (key_eq q) own)
      (list_any (key_eq q) (map (hide index) own)))
      ∙ ap (λ b. Made q && b) (sym (list_any-append (key_eq q) own (map (hide index) own))
      ∙ ap (list_any (key_eq q)) (keys_more index d.count u.keys within few))
    where
      own : List RowKey
      own = keys_from (index + 1) d.count u.keys

      forth : list_any (comes In Made (hide index) q u.keys) es ≡ true
          → (Made q && list_any (key_eq q) (map (hide index) own)) ≡ true
      forth h =
          let some = some_at (comes In Made (hide index) q u.keys) es h in
          let made = and_parts (Made (hide index (key_view some.1.0)))
          (key_eq q (hide index (key_view some.1.0)) && In (key_view some.1.0) u.keys) some.3 in
          let both = and_parts (key_eq q (hide index (key_view some.1.0)))
          (In (key_view some.1.0) u.keys) made.1 in
          let mine = some_at (key_eq (key_view some.1.0)) own
          (in_keys d.shape (index + 1) d.count (key_view some.1.0) u.keys both.1) in
          let is : q ≡ hide index (key_view some.1.0) =
          (key_decides q (hide index (key_view some.1.0))).0 both.0 in
          ap (λ b. b && list_any (key_eq q) (map (hide index) own)) (ap Made is ∙ made.0)
          ∙ any_mapped (hide index) (key_eq q) own
          ∙ any_passes_from_place (λ k. key_eq q (hide index k)) own mine.0 mine.1 mine.2
          (ap (λ k. key_eq q (hide index k))
          (sym ((key_decides (key_view some.1.0) mine.1).0 mine.3)) ∙ both.0)

      back : (Made q && list_any (key_eq q) (map (hide index) own)) ≡ true
          → list_any (comes In Made (hide index) q u.keys) es ≡ true
      back h =
          let parts = and_parts (Made q) (list_any (key_eq q) (map (hide index) own)) h in
          let mine = some_at (λ k. key_eq q (hide index k)) own
          (sym (any_mapped (hide index) (key_eq q) own) ∙ parts.1) in
          let among : list_any (key_eq mine.1) own ≡ true =
          any_passes_from_place (key_eq mine.1) own mine.0 mine.1 mine.2 (key_equiv.refl mine.1) in
          let is : q ≡ hide index mine.1 = (key_decides q (hide index mine.1)).0 mine.3 in
          let made : Made (hide index mine.1) ≡ true = ap Made (sym is) ∙ parts.0 in
          let in_row : In mine.1 u.keys ≡ true =
          ap (λ b. b && list_any (key_eq mine.1) own)
          (finer_key d.shape index d.count u.keys within few (fits_at u c) mine.1
          (begins index d.count u.keys within few mine.1 among) made) ∙ among in
          let at = there u c mine.1 in_row in
          any_passes_from_place (comes In Made (hide index) q u.keys) es at.0 at.1 at.2
          (ap (λ k. Made (hide index k) && (key_eq q (hide index k) && In k u.keys)) (sym at.3)
          ∙ ap (λ b. b && (key_eq q (hide index mine.1) && In mine.1 u.keys)) made
          ∙ ap (λ b. b && In mine.1 u.keys) mine.3 ∙ in_row)

  -- each row is over its puts
  pub row_over : (j : ℕ) (e : Entry)
      → slice_get es j ≡ Some e → IsRowOver d (filter (λ u. In (key_view e.0) u.keys) us) (Some e.1)
  row_over j e at = subst (IsRowOver d (filter (λ u. In (key_view e.0) u.keys) us))
      (row_once es rolled.once j e at) (rolled.rows (key_view e.0))

  module _ (fs : List Entry)
      (over : AreOver d us (so_far In Made (hide index) es (length es)) fs)
      (once : AreOnce fs) where
    apart : AreApart us In (hide index)
    apart = keys_apart d.shape us index d.count within few rolled.fit

    -- none of the rows that were there has the key of a coarser one
    new_key : (f : Entry) → Contains fs f → row_found es (key_view f.0) ≡ None
    new_key f c = by (row_found es (key_view f.0)) refl (rolled.rows (key_view f.0))
      where
        made : IsRowOver d (filter (λ u. so_far In Made (hide index) es (length es)
            (key_view f.0) u.keys) us) (Some f.1)
        made = subst (IsRowOver d
            (filter (λ u. so_far In Made (hide index) es (length es) (key_view f.0) u.keys) us))
            (row_once fs once c.0 f (slice_get-get_or fs c.0 f c.1 ∙ ap Some c.2))
            (over (key_view f.0))

        by : (found : Option Row) → row_found es (key_view f.0) ≡ found
            → IsRowOver d (filter (λ u. In (key_view f.0) u.keys) us) found
            → row_found es (key_view f.0) ≡ None
        by None e was = e
        by (Some row) e was =
            let old = put_of (λ u. In (key_view f.0) u.keys) us was.0 in
            let new = put_of
            (λ u. so_far In Made (hide index) es (length es) (key_view f.0) u.keys) us made.0 in
            absurd (disjoint us In Made (hide index) es apart (length es) (key_view f.0) old.0 new.0
            old.1 old.2 new.2)

    pub all_merged : IsRolledUp d index (es ++ fs) us
    all_merged = record {
      fit = rolled.fit;
      rows = λ q. subst (λ ps. IsRowOver d ps (row_found (es ++ fs) q)) (filter_each us (now_in q))
          (joined us In Made (hide index) es apart (length es) d fs rolled.rows over q);
      once = once_joined es fs rolled.once once (of_each _ fs new_key);
    }

  -- in a rollup no row has a coarser key with ALL one position before: the key at this position is
  -- shown
  pub shows_next : (p : ℕ) → p + 1 ≡ index → (j : ℕ) (e : Entry)
      → slice_get es j ≡ Some e → is_grouping Rollup (take d.count (hide p (key_view e.0))) ≡ false
  shows_next p next j e at =
      let some = put_of (λ u. In (key_view e.0) u.keys) us (row_over j e at).0 in
      let ks = some.0.keys in
      let fits : length ks ≡ d.count =
      at_each (λ w. length w.keys ≡ d.count) us some.0 rolled.fit some.1 in
      let b = begins index d.count ks within few (key_view e.0)
      (in_keys d.shape (index + 1) d.count (key_view e.0) ks some.2) in
      let same : index ≡ suc p = omega (arith, next) in
      let long : suc p < length (padded 6 ks) =
      omega (arith, length-padded 6 ks, within, few, same) in
      let hidden : hide p (key_view e.0)
      ≡ take p (padded 6 ks) ++ (None ∷ get_or (padded 6 ks) (suc p) None ∷ b.rest) =
      ap (hide p) (b.is ∙ ap (λ n. take (suc n) (padded 6 ks) ++ b.rest) same
      ∙ one_more (padded 6 ks) (suc p) None b.rest long)
      ∙ set_there (padded 6 ks) p None (get_or (padded 6 ks) (suc p) None ∷ b.rest)
      (omega (arith, long)) in
      ap (λ k. is_grouping Rollup (take d.count k)) hidden
      ∙ gap 6 d.count p ks b.rest (omega (arith, within, same, fits)) (omega (arith, few, fits))
      (omega (arith, within, same))

-- ---- the turns of a pass

abbrev IsMade : Shape → ℕ → RowKey → Bool
IsMade shape count q = is_grouping shape (take count q)

-- the first j rows are merged in
abbrev pub IsMergedSoFar : Shape → ℕ → List Aggregate → ℕ → List Entry → ℕ → List Entry → Type 0
IsMergedSoFar shape count gs index es j rows = (puts : List Update) → index + 1 ≤ count → count ≤ 6
    → IsRolledUp (group_with shape count gs) (index + 1) es puts
    → AreOver (group_with shape count gs) puts
    (so_far (is_among shape (index + 1) count) (IsMade shape count) (hide index) es j) rows

pub stay_prop : (gs : List Aggregate) (found : Option Row) (more : Row)
    → IsProp (RowsStay gs found more)
stay_prop gs None more = hlevel
stay_prop gs (Some held) more = hlevel Bool-set

module _ (shape : Shape) (count : ℕ) (gs : List Aggregate) (index : ℕ) (es : List Entry) where
  abbrev d : Group
  d = group_with shape count gs

  -- the first rows, where none has a coarser key that is a grouping
  pub none_before : (from : ℕ) → from ≤ length es → NoneCoarser shape count index from es
      → IsMergedSoFar shape count gs index es from []
  none_before zero within none = λ puts below few rolled.
      none_yet (is_among shape (index + 1) count) (IsMade shape count) (hide index) es d puts
  none_before (suc j) within none =
      let here : j < length es = omega (arith, within) in
      let next : j + 1 ≡ suc j = omega arith in
      let before = none_before j (omega (arith, within))
      (λ number h. none number (omega (arith, h))) in
      subst (λ n. IsMergedSoFar shape count gs index es n []) next (λ puts below few rolled.
      left_out puts (is_among shape (index + 1) count) (IsMade shape count) (hide index) es
      (keys_apart shape puts index count (omega (arith, below)) few rolled.fit)
      (once_at es rolled.once) j (get_or es j ([], [])) (slice_get-get_or es j ([], []) here) d
      (none j (omega arith)) [] (before puts below few rolled))

  pub rolls_up : (fs : List Entry) → AreOnce fs
      → IsMergedSoFar shape count gs index es (length es) fs
      → RollsUp shape count gs (index + 1) es index (es ++ fs)
  rolls_up fs once over puts below few rolled =
      all_merged d puts index (omega (arith, below)) few es rolled fs (over puts below few rolled)
      once

  module _ (j : ℕ) (e : Entry) (at : slice_get es j ≡ Some e)
      (before : List Entry) (key : List KeyPart)
      (is_key : key_view key ≡ set (key_view e.0) index None)
      (over : IsMergedSoFar shape count gs index es j before) where
    pub turn_stays : ∥ IsRolledUpWithRoom shape count gs (index + 1) es ∥₁
        → is_grouping shape (take count (key_view key)) ≡ true
        → RowsStay gs (row_found before (key_view key)) e.1
    turn_stays room grouping = ∥∥₁_elim room (stay_prop gs (row_found before (key_view key)) e.1) by
      where
        by : IsRolledUpWithRoom shape count gs (index + 1) es
            → RowsStay gs (row_found before (key_view key)) e.1
        by r =
            let within : index < count = omega (arith, r.below) in
            stays_one r.puts (is_among shape (index + 1) count) (IsMade shape count) (hide index) es
            (keys_apart shape r.puts index count within r.few r.rows.fit)
            (once_at es r.rows.once) j e at d (ap (IsMade shape count) (sym is_key) ∙ grouping)
            (row_over d r.puts index within r.few es r.rows j e at) before key is_key r.room
            (over r.puts r.below r.few r.rows)

    pub turn_merges : (after : List Entry)
        → IsMergedWhere shape count gs (key_view key) e.1 before after
        → IsMergedSoFar shape count gs index es (j + 1) after
    turn_merges after merges puts below few rolled =
        by (is_grouping shape (take count (key_view key))) refl merges
      where
        within : index < count
        within = omega (arith, below)

        apart : AreApart puts (is_among shape (index + 1) count) (hide index)
        apart = keys_apart shape puts index count within few rolled.fit

        by : (b : Bool) → is_grouping shape (take count (key_view key)) ≡ b
            → MatchBool b (IsMergedAt gs (key_view key) e.1 before after) (after ≡ before)
            → AreOver d puts (so_far (is_among shape (index + 1) count) (IsMade shape count)
            (hide index) es (j + 1)) after
        by true grouping merged =
            merged_one puts (is_among shape (index + 1) count) (IsMade shape count) (hide index) es
            apart (once_at es rolled.once) j e at d
            (ap (IsMade shape count) (sym is_key) ∙ grouping)
            (row_over d puts index within few es rolled j e at) before key is_key after merged
            (over puts below few rolled)
        by false other same = subst
            (AreOver d puts (so_far (is_among shape (index + 1) count) (IsMade shape count)
            (hide index) es (j + 1))) (sym same)
            (left_out puts (is_among shape (index + 1) count) (IsMade shape count) (hide index) es
            apart (once_at es rolled.once) j e at d
            (ap (IsMade shape count) (sym is_key) ∙ other) before
            (over puts below few rolled))

-- ---- the passes

-- after the pass before
pub next_none : (shape : Shape) (count : ℕ) (gs : List Aggregate) (index : ℕ) (es fs : List Entry)
    → index < count → ∥ IsRolledUpWithRoom shape count gs (index + 1) es ∥₁ → (p : ℕ)
    → p + 1 ≡ index → NoneCoarser shape count p (first_finer shape (length es)) (es ++ fs)
next_none Plain count gs index es fs within room p next number h = absurd (omega (arith, h))
next_none Cube count gs index es fs within room p next number h = absurd (omega (arith, h))
next_none Rollup count gs index es fs within room p next number h =
    ap (λ (e : Entry). is_grouping Rollup (take count (hide p
    (key_view e.0)))) (get_or_append_left es fs ([], []) number h)
    ∙ ∥∥₁_elim room (let prop :
    IsProp (is_grouping Rollup (take count (hide p (key_view (get_or es number ([], [])).0)))
    ≡ false) = hlevel Bool-set in prop) (λ r.
    shows_next (group_with Rollup count gs) r.puts index within r.few es r.rows p next number
    (get_or es number ([], [])) (slice_get-get_or es number ([], []) h))

pub room_there : (shape : Shape) (count : ℕ) (gs : List Aggregate) (index : ℕ)
    (es fs : List Entry) → index ≤ count
    → RollsUp shape count gs count es index fs → ∥ IsRolledUpWithRoom shape count gs count es ∥₁
    → ∥ IsRolledUpWithRoom shape count gs index fs ∥₁
room_there shape count gs index es fs below rolls room = ∥∥₁_map room by
  where
    by : IsRolledUpWithRoom shape count gs count es → IsRolledUpWithRoom shape count gs index fs
    by r = record {
      puts = r.puts;
      below = omega (arith, below, r.below);
      few = r.few;
      rows = rolls r.puts r.below r.few r.rows;
      room = r.room;
    }
