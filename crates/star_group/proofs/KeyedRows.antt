-- Rows in flat storage with their keys: what stands at a number, one row more, and one changed.
use Rattle.star_group.{proofs.Common.{Entry, Row, RowKey, ◌≡◌, ◌⊎◌, inl, inr, cases_lt, get_or-map, is_some, ℕ, zero, suc, ◌<◌, ◌≤◌, true, false, List, [], ◌∷◌, ◌++◌, Option, Some, None, Result, Ok, Err, OnOk, cond, length, get_or, get_or-set_same, set, slice_get, map, take, drop, ap, sym, ◌∙◌, subst, refl, arith, true≢false, AllByRecursion, filter, list_any, keys_of, lookup, get_or-take, length-map, length-set, take_at, lookup_from_place, place_from_lookup, slice_get-get_or, slice_get-map, slice_get_within, KeyValue, KeyPart, All, KeyedRows, key_view, row_found, key_value_view, entries_of, all_rolled_up, filled, key_eq, padded, vary, AreOnce, shown_entries, IsMerged, IsMergedAt, IsWithRow, Aggregate, Shape, option_map, unwrap_or, with_items, and_parts, false_from_ne_true, list_any-from_Contains, contains_mapped, of_each, AreNarrow, IsNarrow, is_row_key, IsHeld, IsMissing, keys_in, IsDistinct-push, get_or_from_slice_get, append_assoc, cut, append-nil}, proofs.GroupKeys.{among_vary, any_kept, in_padded, in_slots, key_decides, key_equiv, masked_length}, proofs.ListedRows.{key_count, key_wide, keyed_at, length-keyed, narrow_filled, row_count, same}, proofs.Passes.{IsOnceAt, first_of, found_append}, specs.declared.keyed.key.KeyPart.TheVariants.{Number, Code}, specs.Keyed.keyed}
use Rattle.std.{proofs.lemmas.Map.Keys.{IsDistinct-from_apart, apart_from_distinct}, proofs.lemmas.Map.Made.is_some-lookup, specs.List.IsDistinct}
use Rattle.star_program.specs.declared.key.KeyValue.TheVariants.{Number as KeyNumber, Code as KeyCode}

-- ---- entries, each of whose keys is there once

pub shown_lookup : (q : RowKey) (es : List Entry)
    → lookup (key_eq q) (shown_entries es) ≡ row_found es q
shown_lookup q [] = refl
shown_lookup q (e ∷ es) = ap (cond (key_eq q (key_view e.0)) (Some e.1)) (shown_lookup q es)

abbrev show : Entry → RowKey × Row
show e = (key_view e.0, e.1)

shown_count : (es : List Entry) → length (keys_of (shown_entries es)) ≡ length es
shown_count es = length-map (shown_entries es) _ ∙ length-map es show

key_at : (es : List Entry) (n : ℕ) (d : RowKey) → n < length es
    → get_or (keys_of (shown_entries es)) n d ≡ key_view (get_or es n ([], [])).0
key_at es n d h = get_or-map (λ (p : RowKey × Row). p.0)
    (shown_entries es) n ([], []) d (omega (arith, h, length-map es show))
    ∙ ap (λ (p : RowKey × Row). p.0) (get_or-map show es n ([], []) ([], []) h)

-- an entry is found by its key
pub row_once : (es : List Entry) → AreOnce es → (j : ℕ) (e : Entry) → slice_get es j ≡ Some e
    → row_found es (key_view e.0) ≡ Some e.1
row_once es once j e at =
    let show : Entry → RowKey × Row = λ f. (key_view f.0, f.1) in
    sym (shown_lookup (key_view e.0) es)
    ∙ lookup_from_place key_equiv (shown_entries es) j (key_view e.0) e.1
    once (slice_get-map show es j ∙ ap (option_map show) at)

pub once_at : (es : List Entry) → AreOnce es → IsOnceAt es
once_at es once i j e f at_i at_j same = by (cases_lt i j) (cases_lt j i)
  where
    view : (n : ℕ) (g : Entry) → slice_get es n ≡ Some g
        → get_or (keys_of (shown_entries es)) n [] ≡ key_view g.0
    view n g at = key_at es n [] (slice_get_within es n g at) ∙ ap (λ (h : Entry). key_view h.0)
        (get_or_from_slice_get es n g ([], []) at)

    apart : (m n : ℕ) (g h : Entry) → slice_get es m ≡ Some g
        → slice_get es n ≡ Some h → key_view g.0 ≡ key_view h.0 → m < n → ⊥
    apart m n g h at_m at_n is less =
        true≢false (sym ((key_decides _ _).1 (view m g at_m ∙ is ∙ sym (view n h at_n)))
        ∙ apart_from_distinct key_eq (keys_of (shown_entries es)) m n [] once less
        (omega (arith, slice_get_within es n h at_n, shown_count es)))

    by : (i < j) ⊎ (j ≤ i) → (j < i) ⊎ (i ≤ j) → i ≡ j
    by (inl less) c = absurd (apart i j e f at_i at_j same less)
    by (inr a) (inl less) = absurd (apart j i f e at_j at_i (sym same) less)
    by (inr a) (inr b) = omega (arith, a, b)

-- ---- keys beside rows

-- a row of another key is as it was
others_set : (ks : List (List KeyPart)) (cs : List Row) (n : ℕ) (row : Row) (q : RowKey)
    → key_eq q (key_view (filled (get_or ks n []))) ≡ false
    → row_found (keyed ks (set cs n row)) q ≡ row_found (keyed ks cs) q
unfolding keyed
others_set [] cs n row q apart = refl
others_set (k ∷ ks) [] n row q apart = refl
others_set (k ∷ ks) (c ∷ cs) zero row q apart =
    ap (λ b. cond b (Some row) (row_found (keyed ks cs) q)) apart
    ∙ sym (ap (λ b. cond b (Some c) (row_found (keyed ks cs) q)) apart)
others_set (k ∷ ks) (c ∷ cs) (suc n) row q apart =
    ap (cond (key_eq q (key_view (filled k))) (Some c)) (others_set ks cs n row q apart)

-- one row more
pub row_more : (es : List Entry) (k : List KeyPart) (c : Row)
    (q : RowKey) → (key_eq q (key_view k) ≡ true → row_found es q ≡ None)
    → row_found (es ++ (k, c) ∷ []) q ≡ cond (key_eq q (key_view k)) (Some c) (row_found es q)
row_more es k c q new = grind (arith, found_append, row_found, first_of)

-- a row of a key that no row has
pub merged_new : (gs : List Aggregate) (es : List Entry)
    (k : List KeyPart) (more row : Row) → row_found es (key_view k) ≡ None
    → ((index : ℕ) → index < length gs → get_or row index None ≡ get_or more index None)
    → IsMergedAt gs (key_view k) more es (es ++ (k, row) ∷ [])
merged_new gs es k more row none all = (
  row,
  subst (λ found. IsMerged gs (unwrap_or found []) more row) (sym none) all,
  λ q. row_more es k row q (λ e. ap (row_found es) ((key_decides q (key_view k)).0 e) ∙ none),
)

keys_more : (fs : List Entry) (k : List KeyPart) (r : Row)
    → keys_of (shown_entries (fs ++ (k, r) ∷ [])) ≡ keys_of (shown_entries fs) ++ key_view k ∷ []
keys_more [] k r = refl
keys_more (f ∷ fs) k r = ap (λ ks. key_view f.0 ∷ ks) (keys_more fs k r)

none_among : (fs : List Entry) (q : RowKey)
    → row_found fs q ≡ None → list_any (key_eq q) (keys_of (shown_entries fs)) ≡ false
none_among fs q e = sym (is_some-lookup (key_eq q) (shown_entries fs))
    ∙ ap is_some (shown_lookup q fs ∙ e)

pub once_more : (fs : List Entry) (k : List KeyPart) (r : Row)
    → row_found fs (key_view k) ≡ None → AreOnce fs → AreOnce (fs ++ (k, r) ∷ [])
once_more fs k r none once = subst (IsDistinct key_eq) (sym (keys_more fs k r))
    (IsDistinct-push key_equiv (keys_of (shown_entries fs)) (key_view k) once
    (none_among fs (key_view k) none))

all_after : (es fs : List Entry) (k : List KeyPart)
    (c : Row) → AllByRecursion (λ f. row_found es (key_view f.0) ≡ None) fs
    → AllByRecursion (λ m. key_eq (key_view k) m ≡ false) (keys_of (shown_entries fs))
    → AllByRecursion (λ f. row_found (es ++ (k, c) ∷ []) (key_view f.0) ≡ None) fs
all_after es [] k c none apart = tt
all_after es (f ∷ fs) k c none apart =
    grind (arith, all_after es fs k c none.1 apart.1, row_more, key_equiv, apart)

-- rows after others whose keys they do not have
pub once_joined : (es fs : List Entry) → AreOnce es → AreOnce fs
    → AllByRecursion (λ f. row_found es (key_view f.0) ≡ None) fs → AreOnce (es ++ fs)
unfolding IsDistinct
once_joined es [] once others none = subst AreOnce (sym (append-nil es)) once
once_joined es (f ∷ fs) once others none = subst AreOnce (append_assoc es (f ∷ []) fs)
    (once_joined (es ++ f ∷ []) fs (once_more es f.0 f.1 none.0 once) others.1
    (all_after es fs f.0 f.1 none.1 others.0))

-- ---- keys in six positions

abbrev part_of : Option KeyValue → KeyPart
part_of None = All
part_of (Some (KeyNumber x)) = Number x
part_of (Some (KeyCode n)) = Code n

part_back : (p : KeyPart) → part_of (key_value_view p) ≡ p
part_back All = refl
part_back (Number x) = refl
part_back (Code n) = refl

parts_back : (ps : List KeyPart) → map part_of (key_view ps) ≡ ps
parts_back [] = refl
parts_back (p ∷ ps) = λ i. part_back p i ∷ parts_back ps i

key_once : (ps rs : List KeyPart) → key_view ps ≡ key_view rs → ps ≡ rs
key_once ps rs e = sym (parts_back ps) ∙ ap (map part_of) e ∙ parts_back rs

-- ---- rows with each key once

module _ (w : ℕ) (ks : List (List KeyPart)) (cs : List Row)
    (same : length ks ≡ length cs) (wide : (i : ℕ) → i < length ks → length (get_or ks i []) ≡ w)
    (once : (i j : ℕ) → i < length ks → j < length ks → get_or ks i [] ≡ get_or ks j []
    → i ≡ j) where
  own_parts : (i : ℕ) → i < length ks → take w (filled (get_or ks i [])) ≡ get_or ks i []
  own_parts i h = take_at (get_or ks i []) (drop (length (get_or ks i [])) all_rolled_up) w
      (wide i h)

  entry_is : (i : ℕ) (e : Entry) → slice_get (keyed ks cs) i ≡ Some e
      → (i < length ks) × (e ≡ (filled (get_or ks i []), get_or cs i []))
  entry_is i e at =
      let among = slice_get_within (keyed ks cs) i e at in
      let within : i < length ks = omega (arith, among, length-keyed ks cs same) in
      let some = slice_get-get_or (keyed ks cs) i ([], []) among in
      let is : e ≡ get_or (keyed ks cs) i ([], []) = cc (some, at) in
      (within, is ∙ keyed_at ks cs i same within)

  view_at : (i : ℕ) (d : RowKey) → i < length ks
      → get_or (keys_of (shown_entries (keyed ks cs))) i d ≡ key_view (filled (get_or ks i []))
  view_at i d h = key_at (keyed ks cs) i d (omega (arith, h, length-keyed ks cs same))
      ∙ ap (λ (e : Entry). key_view e.0) (keyed_at ks cs i same h)

  pub once_keyed : AreOnce (keyed ks cs)
  once_keyed = IsDistinct-from_apart key_eq (keys_of (shown_entries (keyed ks cs)))
      (λ i j d less within.
      let j_in : j < length ks =
      omega (arith, within, shown_count (keyed ks cs), length-keyed ks cs same) in
      let i_in : i < length ks = omega (arith, less, j_in) in
      false_from_ne_true _ (λ h.
      let parts = key_once (filled (get_or ks i [])) (filled (get_or ks j []))
      (sym (view_at i d i_in) ∙ (key_decides _ _).0 h ∙ view_at j d j_in) in
      let is = once i j i_in j_in (sym (own_parts i i_in) ∙ ap (take w) parts ∙ own_parts j j_in) in
      omega (arith, less, is)))

  pub held_row : (n : ℕ) → n < length ks
      → row_found (keyed ks cs) (key_view (filled (get_or ks n []))) ≡ Some (get_or cs n [])
  held_row n h =
      let among : n < length (keyed ks cs) = omega (arith, h, length-keyed ks cs same) in
      row_once (keyed ks cs) once_keyed n (filled (get_or ks n []), get_or cs n [])
      (slice_get-get_or (keyed ks cs) n ([], []) among ∙ ap Some (keyed_at ks cs n same h))

  pub no_row : (key : List KeyPart) → ((n : ℕ) → n < length ks → get_or ks n [] ≡ take w key → ⊥)
      → row_found (keyed ks cs) (key_view key) ≡ None
  no_row key none = by (row_found (keyed ks cs) (key_view key)) refl
    where
      by : (found : Option Row) → row_found (keyed ks cs) (key_view key) ≡ found → found ≡ None
      by None e = refl
      by (Some row) e =
          let f = place_from_lookup (λ parts. key_eq (key_view key) (key_view parts)) (keyed ks cs)
          row e in
          let a = entry_is f.0 (f.1, row) f.2 in
          let parts : key ≡ filled (get_or ks f.0 []) =
          key_once key f.1 ((key_decides (key_view key) (key_view f.1)).0 f.3)
          ∙ ap (λ (x : Entry). x.0) a.1 in
          absurd (none f.0 a.0 (sym (own_parts f.0 a.0) ∙ ap (take w) (sym parts)))

module _ (w : ℕ) (ks : List (List KeyPart)) (cs : List Row)
    (same : length ks ≡ length cs) (wide : (i : ℕ) → i < length ks → length (get_or ks i []) ≡ w)
    (once : (i j : ℕ) → i < length ks → j < length ks → get_or ks i [] ≡ get_or ks j []
    → i ≡ j) where
  set_found : (n : ℕ) (row : Row) → n < length ks
      → row_found (keyed ks (set cs n row)) (key_view (filled (get_or ks n []))) ≡ Some row
  set_found n row h = held_row w ks (set cs n row) (same ∙ sym (length-set cs n row)) wide once n h
      ∙ ap Some (get_or-set_same cs n row [] (omega (arith, h, same)))

  -- the row of a number in place of the one that is there
  pub with_set : (n : ℕ) (key : List KeyPart) (row : Row) → n < length ks
      → filled (get_or ks n []) ≡ key
      → IsWithRow (key_view key) row (keyed ks cs) (keyed ks (set cs n row))
  with_set n key row h is q = grind (arith, row_found, others_set, is, key_decides, set_found)

-- ---- the rows of a store

module _ (rows : KeyedRows) where
  abbrev ks : List (List KeyPart)
  ks = keys_in rows

  abbrev cs : List Row
  cs = cut rows.listed.aggregate_count rows.listed.len rows.listed.cells.items

  wide : (i : ℕ) → i < length ks → length (get_or ks i []) ≡ rows.listed.width
  wide i h = key_wide rows.listed i (omega (arith, h, key_count rows.listed, row_count rows.listed))

  pub rows_once : AreOnce (entries_of rows)
  rows_once = once_keyed rows.listed.width ks cs (same rows.listed) wide rows.trie.once

  module _ (key : List KeyPart) (long : length key ≡ 6)
      (narrow : drop rows.listed.width key ≡ drop rows.listed.width all_rolled_up) where
    module _ (number : ℕ) (held : IsHeld ks (take rows.listed.width key) number) where
      is : filled (get_or ks number []) ≡ key
      is = ap filled held.is
          ∙ narrow_filled rows.listed.width key (omega (arith, rows.listed.few, long)) narrow

      pub number_within : number < rows.listed.len
      number_within = omega (arith, held.within, key_count rows.listed)

      pub number_among : number < length (entries_of rows)
      number_among = omega (arith, number_within, row_count rows.listed)

      pub row_held : row_found (entries_of rows) (key_view key) ≡ Some (get_or cs number [])
      row_held = ap (λ k. row_found (entries_of rows) (key_view k)) (sym is)
          ∙ held_row rows.listed.width ks cs (same rows.listed) wide rows.trie.once number
          held.within

      pub set_held : (row : Row) (ns : Row)
          → cut rows.listed.aggregate_count rows.listed.len ns ≡ set cs number row
          → length ns ≡ rows.listed.cells.len → IsWithRow (key_view key) row (entries_of rows)
          (keyed ks (cut rows.listed.aggregate_count rows.listed.len
          (with_items rows.listed.cells ns).items))
      set_held row ns e many =
          subst (λ xs. IsWithRow (key_view key) row (entries_of rows) (keyed ks xs))
          (sym (ap (cut rows.listed.aggregate_count rows.listed.len)
          (take_at ns (drop (length ns) rows.listed.cells.items) rows.listed.cells.len many) ∙ e))
          (with_set rows.listed.width ks cs (same rows.listed) wide rows.trie.once number key row
          held.within is)

    module _ (node digit : ℕ)
        (slot : IsMissing rows.listed.width ks rows.links.items (take rows.listed.width key) node
        digit) where
      pub row_missing : row_found (entries_of rows) (key_view key) ≡ None
      row_missing = no_row rows.listed.width ks cs (same rows.listed) wide rows.trie.once key
          slot.none

      -- what is merged in is all that there is
      pub merged_missing : {T E : Type 0} (r : Result T E) (gs : List Aggregate)
          (more : Row) (fs : List Entry) → length gs ≡ rows.listed.aggregate_count
          → OnOk r (fs ≡ entries_of rows ++ (key, take rows.listed.aggregate_count more) ∷ [])
          → OnOk r (IsMergedAt gs (key_view key) more (entries_of rows) fs)
      merged_missing (Err x) gs more fs count is = tt
      merged_missing (Ok x) gs more fs count is =
          subst (IsMergedAt gs (key_view key) more (entries_of rows)) (sym is)
          (merged_new gs (entries_of rows) key more (take rows.listed.aggregate_count more)
          row_missing (λ index h.
          get_or-take rows.listed.aggregate_count more index None (omega (arith, h, count))))

-- ---- keys past whose parts there is ALL

all_of : ℕ → List KeyPart
all_of zero = []
all_of (suc n) = All ∷ all_of n

narrow_of : (n w : ℕ) (ps : List KeyPart) (m : RowKey) → key_view ps ≡ in_slots n m
    → length m ≤ w → drop w ps ≡ drop w (all_of n)
unfolding in_slots all_of
narrow_of zero w [] m e h = refl
narrow_of zero w (p ∷ ps) m e h = absurd (let no : ⊥ = cc e in no)
narrow_of (suc n) w [] [] e h = absurd (let no : ⊥ = cc e in no)
narrow_of (suc n) w [] (k ∷ m) e h = absurd (let no : ⊥ = cc e in no)
narrow_of (suc n) zero (p ∷ ps) [] e h =
    let first : key_value_view p ≡ key_value_view All = cc e in
    let rest : key_view ps ≡ in_slots n [] = cc e in
    λ i. (sym (part_back p) ∙ ap part_of first) i ∷ narrow_of n zero ps [] rest h i
narrow_of (suc n) (suc w) (p ∷ ps) [] e h = let rest : key_view ps ≡ in_slots n [] = cc e in
    narrow_of n w ps [] rest (omega arith)
narrow_of (suc n) zero (p ∷ ps) (k ∷ m) e h = absurd (omega (arith, h))
narrow_of (suc n) (suc w) (p ∷ ps) (k ∷ m) e h = let rest : key_view ps ≡ in_slots n m = cc e in
    narrow_of n w ps m rest (omega (arith, h))

pub base_narrow : (w : ℕ) (ps : List KeyPart) (ks : List KeyValue) → key_view ps ≡ padded 6 ks
    → length ks ≤ w → drop w ps ≡ drop w all_rolled_up
unfolding all_of
base_narrow w ps ks e h =
    narrow_of 6 w ps (map Some ks) (e ∙ sym (in_padded 6 ks)) (omega (arith, h, length-map ks Some))

-- the keys of a put's rows
pub row_keys_narrow : (s : Shape) (ks : List KeyValue) (own : List (List KeyPart)) (w : ℕ)
    → length ks ≤ w → length ks ≤ 6
    → map key_view own ≡ filter (is_row_key s (length ks)) (vary (length ks) (padded 6 ks))
    → AreNarrow w own
unfolding all_of
row_keys_narrow s ks own w wide few is = of_each (IsNarrow w) own (λ key c.
    let q : RowKey = key_view key in
    let there : list_any (key_eq q) (map key_view own) ≡ true =
    list_any-from_Contains key_equiv q (map key_view own) (contains_mapped key_view own key c) in
    let both = and_parts (is_row_key s (length ks) q) _
    (sym (ap (list_any (key_eq q)) is
    ∙ any_kept (is_row_key s (length ks)) q (vary (length ks) (padded 6 ks))) ∙ there) in
    let found = among_vary 6 ks q few both.1 in
    narrow_of 6 w key found.keys found.is
    (omega (arith, wide, masked_length found.keys ks found.masked)))
