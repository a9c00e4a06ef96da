-- The rows of a plain group, one after another: those beside the positions, and that of each
-- position.
use Rattle.star_group.proofs.{Common.{Entry, Row, ◌≡◌, ℕ, suc, ◌*◌, ◌<◌, ◌≤◌, Bool, true, false, ◌&&◌, nat_lt, ℤ, pos, List, [], ◌∷◌, ◌++◌, Option, Some, None, length, map, take, get_or, refl, ap, sym, ◌∙◌, arith, true≢false, filter, AllByRecursion, nat_tests, at_each, Aggregate, Shape, KeyValue, Update, cut, KeyPart, Span, IsRowOver, key_view, row_found, IsArrayContent, has_puts, key_eq, padded, group_id, is_at, id_count, group_with, AreOnce, IsListed, Group, Contains}, ArrayRows.{below_id, in_row, is_below, none_there, own_id, row_there, rows_first, rows_last, rows_more, rows_same}, GroupKeys.{key_decides, padded_keys}, AllRows.base_rolled, KeyedRows.{merged_new, once_more}, Merging.put_of, Passes.AreOver, Filters.filter_none, ArrayCells.puts_there}

-- ---- keys of a position

some_once : (a b : List KeyValue) → map Some a ≡ map Some b → a ≡ b
some_once [] [] e = refl
some_once [] (k ∷ b) e = absurd (let no : ⊥ = cc e in no)
some_once (j ∷ a) [] e = absurd (let no : ⊥ = cc e in no)
some_once (j ∷ a) (k ∷ b) e =
    let first : j ≡ k = cc e in
    let rest : map Some a ≡ map Some b = cc e in
    λ i. first i ∷ some_once a b rest i

padded_once : (a b : List KeyValue) (count : ℕ) → length a ≡ count → length b ≡ count → count ≤ 6
    → padded 6 a ≡ padded 6 b → a ≡ b
padded_once a b count long wide few e =
    some_once a b (sym (padded_keys a count long few) ∙ ap (take count) e
    ∙ padded_keys b count wide few)

not_below : (n : ℕ) → nat_lt n n ≡ false
not_below n = grind (arith, nat_tests)

module _ (d : Group) (spans : List Span) (n : ℕ) where
  -- of the rows of the first positions none has the keys of the next one
  none_yet : (us : List Update) (key : List KeyPart) (found : Option Row)
      → d.count ≤ 6 → AllByRecursion (λ u. length u.keys ≡ d.count) us
      → ((keys : List KeyValue) → group_id spans keys ≡ Some n → key_view key ≡ padded 6 keys)
      → has_puts (puts_there spans n us) ≡ true
      → IsRowOver d (filter (λ w. in_row spans n (key_view key) w.keys) us) found → found ≡ None
  none_yet us key None few fit own some over = refl
  none_yet us key (Some row) few fit own some over =
      absurd (true≢false (sym over.0 ∙ ap has_puts
      (filter_none us (λ w c. by w (at_each _ us w fit c)
      (key_eq (key_view key) (padded 6 w.keys)) refl))))
    where
      there : (u : Update) × Contains us u × (is_at spans n u.keys ≡ true)
      there = put_of (λ w. is_at spans n w.keys) us some

      by : (w : Update) → length w.keys ≡ d.count → (b : Bool)
          → key_eq (key_view key) (padded 6 w.keys) ≡ b → (b && is_below spans n w.keys) ≡ false
      by w fits false e = refl
      by w fits true e =
          let at = own_id spans n there.0.keys there.2 in
          let same : w.keys ≡ there.0.keys =
          padded_once w.keys there.0.keys d.count fits (at_each _ us there.0 fit there.1) few
          (sym ((key_decides (key_view key) (padded 6 w.keys)).0 e) ∙ own there.0.keys at) in
          ap (below_id n) (ap (group_id spans) same ∙ at) ∙ not_below n

-- ---- the rows of the first positions

module _ (gs : List Aggregate) (spans : List Span) (seen : List Bool) (cells : List ℤ)
    (es : List Entry) where
  abbrev pub IsListedTo : ℕ → List Entry → Type 0
  IsListedTo n fs = (shape : Shape) (rest : Row) (puts : List Update)
      → IsArrayContent (group_with shape (length spans) gs) spans seen cells es rest puts
      → AreOnce fs × AreOver (group_with shape (length spans) gs) puts (in_row spans n) fs

  pub list_start : AreOnce es → IsListedTo 0 es
  list_start once shape rest puts is =
      (once, rows_first (group_with shape (length spans) gs) spans puts es is.rest.rows)

  pub list_end : length spans ≤ 6 → (n : ℕ) → n ≡ id_count spans → (fs : List Entry)
      → IsListedTo n fs → IsListed gs spans seen cells es fs
  list_end few n same fs listed shape rest puts is =
      let d = group_with shape (length spans) gs in
      let now = listed shape rest puts is in
      base_rolled d fs puts few is.fit (rows_last d spans puts n same fs now.1) now.0

  module _ (long : length cells ≡ length gs * length seen) (n : ℕ) (here : n < length seen)
      (fs : List Entry) (listed : IsListedTo n fs) where
    pub list_skip : get_or seen n false ≡ false → IsListedTo (suc n) fs
    list_skip marked shape rest puts is =
        let d = group_with shape (length spans) gs in
        let now = listed shape rest puts is in (
          now.0,
          rows_same d spans puts n
              (none_there d spans seen cells es rest puts is n here long marked) fs now.1,
        )

    pub list_more : length spans ≤ 6 → (key : List KeyPart)
        → ((keys : List KeyValue) → group_id spans keys ≡ Some n → key_view key ≡ padded 6 keys)
        → (row : Row) → get_or seen n false ≡ true
        → ((a : ℕ) → a < length gs
        → get_or row a None ≡ Some (get_or (get_or (cut (length seen) (length gs) cells) a []) n
        (pos 0))) → IsListedTo (suc n) (fs ++ (key, row) ∷ [])
    list_more few key own row marked at shape rest puts is =
        let d = group_with shape (length spans) gs in
        let now = listed shape rest puts is in
        let none = none_yet d spans n puts key (row_found fs (key_view key)) few is.fit own
        (sym (is.seen_at n here) ∙ marked) (now.1 (key_view key)) in (
          once_more fs key row none now.0,
          rows_more d spans puts n key
              (λ keys e. sym (own keys (own_id spans n keys e))) row
              (row_there d spans seen cells es rest puts is n here long row marked at) fs
              (fs ++ (key, row) ∷ []) (merged_new gs fs key row row none (λ id h. refl)) now.1,
        )
