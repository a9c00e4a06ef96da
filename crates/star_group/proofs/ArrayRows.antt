-- The rows and the total of puts, some of which stand by their positions.
use Rattle.star_group.{proofs.Common.{Entry, Row, RowKey, ◌≡◌, ℕ, suc, ◌*◌, ◌<◌, Bool, true, false, ◌&&◌, ◌||◌, nat_eq, nat_lt, ℤ, pos, List, [], ◌∷◌, Option, Some, None, length, get_or, refl, ap, sym, ◌∙◌, subst, arith, true≢false, filter, option_eq, unwrap_or, Bool-set, Contains, and-true, or-false, ∥∥₁_elim, eqb-true, lt-ltb, nat_tests, of_each, false_from_ne_true, Aggregate, numbers_for, KeyValue, leaves, Update, aggregate_at, KeyPart, Span, HasAggregates, IsRowOver, key_view, puts_with, row_found, has_puts, key_eq, padded, IsArrayContent, aggregate_cells, neutral, is_at, is_outside, group_id, id_count, IsMerged, IsMergedAt, MergeStays, merged, Group, ArrayStore, Has, group_view}, proofs.Filters.{filter_all, filter_twice, filter_each}, proofs.Bases.{other_row, base_row}, proofs.CutRows.cut_wide, proofs.GroupKeys.key_decides, proofs.Merging.{AreSplit, has_put, held_parts, no_puts, over_parts}, proofs.Passes.AreOver, proofs.ArrayCells.puts_there, proofs.SpanIds.within, specs.Cells.held}

-- ---- the puts without a position, and those at the first positions

abbrev pub below_id : ℕ → Option ℕ → Bool
below_id n None = true
below_id n (Some p) = nat_lt p n

abbrev pub is_below : List Span → ℕ → List KeyValue → Bool
is_below spans n keys = below_id n (group_id spans keys)

below_more : (n p : ℕ) → (nat_lt p (suc n) ≡ (nat_lt p n || nat_eq p n))
    × ((nat_lt p n && nat_eq p n) ≡ false)
below_more n p = (grind (arith, nat_tests), grind (arith, nat_tests))

-- one position more
pub one_id : (spans : List Span) (n : ℕ) (keys : List KeyValue)
    → (is_below spans (suc n) keys ≡ (is_below spans n keys || is_at spans n keys))
    × ((is_below spans n keys && is_at spans n keys) ≡ false)
one_id spans n keys = grind (arith, below_more)

pub none_below : (spans : List Span) (keys : List KeyValue)
    → is_below spans 0 keys ≡ is_outside spans keys
none_below spans keys = grind (arith, nat_tests)

pub all_below : (spans : List Span) (keys : List KeyValue) (n : ℕ) → n ≡ id_count spans
    → is_below spans n keys ≡ true
all_below spans keys n same = grind (arith, lt-ltb, within)

abbrev pub puts_below : List Span → ℕ → List Update → List Update
puts_below spans n us = filter (λ w. is_below spans n w.keys) us

pub split_at : (spans : List Span) (n : ℕ) (us : List Update)
    → AreSplit (λ w. is_below spans n w.keys) (λ w. is_at spans n w.keys)
    (λ w. is_below spans (suc n) w.keys) us
split_at spans n us = of_each _ us (λ w c. one_id spans n w.keys)

-- no puts at a position
none_more : (spans : List Span) (n : ℕ) (us : List Update) → puts_there spans n us ≡ []
    → (w : Update) → Contains us w → is_below spans (suc n) w.keys ≡ is_below spans n w.keys
none_more spans n us none w c =
    let apart : is_at spans n w.keys ≡ false = false_from_ne_true (is_at spans n w.keys) (λ h.
    true≢false (sym (has_put (λ u. is_at spans n u.keys) us w c h) ∙ ap has_puts none)) in
    (one_id spans n w.keys).0 ∙ ap (λ b. is_below spans n w.keys || b) apart ∙ or-false _

-- ---- the row at a position

some_cell : (g : Aggregate) (a : ℕ) (ws : List Update) → has_puts ws ≡ true
    → Some (unwrap_or (held g (numbers_for a ws)) (neutral g)) ≡ held g (numbers_for a ws)
unfolding held
some_cell g a [] h = absurd (true≢false (sym h))
some_cell g a (w ∷ ws) h = refl

-- what a row has of the cells at a position
abbrev pub IsRowAt : Group → List Bool → List ℤ → ℕ → Row → Type 0
IsRowAt d seen cells n row = (a : ℕ) → a < length d.aggregates
    → get_or row a None ≡ Some (get_or (aggregate_cells d seen cells a) n (pos 0))

module _ (d : Group) (spans : List Span) (seen : List Bool) (cells : List ℤ)
    (es : List Entry) (all : Row) (us : List Update)
    (is : IsArrayContent d spans seen cells es all us) (n : ℕ) (here : n < length seen)
    (long : length cells ≡ length d.aggregates * length seen) where
  pub row_there : (row : Row) → get_or seen n false ≡ true → IsRowAt d seen cells n row
      → IsRowOver d (puts_there spans n us) (Some row)
  row_there row marked at = grind (arith, cut_wide, some_cell, puts_there)

  pub none_there : get_or seen n false ≡ false → puts_there spans n us ≡ []
  none_there marked = no_puts (puts_there spans n us) (sym (is.seen_at n here) ∙ marked)

-- ---- the rows

-- a put without a position, or at the first positions, is in the row of its keys
abbrev pub in_row : List Span → ℕ → RowKey → List KeyValue → Bool
in_row spans n q keys = key_eq q (padded 6 keys) && is_below spans n keys

module _ (d : Group) (spans : List Span) (us : List Update) where
  pub rows_first : (es : List Entry)
      → ((q : RowKey) → IsRowOver d (puts_with q (filter (λ w. is_outside spans w.keys) us))
      (row_found es q)) → AreOver d us (in_row spans 0) es
  rows_first es rows q = grind (arith, row_found, filter_twice, padded, filter_each, none_below)

  pub rows_last : (n : ℕ) → n ≡ id_count spans → (es : List Entry)
      → AreOver d us (in_row spans n) es → (q : RowKey)
      → IsRowOver d (puts_with q us) (row_found es q)
  rows_last n same es over q = grind (arith, row_found, filter_each, padded, all_below, and-true)

  module _ (n : ℕ) where
    -- a position without puts
    pub rows_same : puts_there spans n us ≡ [] → (es : List Entry)
        → AreOver d us (in_row spans n) es → AreOver d us (in_row spans (suc n)) es
    rows_same none es over q = coe 1 0 (i. IsRowOver d (filter_each us (λ w c.
        ap (λ b. key_eq q (padded 6 w.keys) && b) (none_more spans n us none w c)) i)
        (row_found es q)) (over q)

    parts : (k b a c : Bool) → c ≡ (b || a) → (b && a) ≡ false → (a ≡ true → k ≡ true)
        → ((k && c) ≡ ((k && b) || a)) × (((k && b) && a) ≡ false)
    parts k b it c e never own = grind (arith, true≢false)

    apart : (k b a c : Bool) → c ≡ (b || a) → (a ≡ true → k ≡ false) → (k && c) ≡ (k && b)
    apart k b true c e other = subst (λ j. (j && c) ≡ (j && b)) (sym (other refl)) refl
    apart k b false c e other = ap (λ x. k && x) (e ∙ or-false b)

    pub rows_more : (key : List KeyPart)
        → ((keys : List KeyValue) → is_at spans n keys ≡ true → padded 6 keys ≡ key_view key)
        → (row : Row) → IsRowOver d (puts_there spans n us) (Some row) → (es fs : List Entry)
        → IsMergedAt d.aggregates (key_view key) row es fs → AreOver d us (in_row spans n) es
        → AreOver d us (in_row spans (suc n)) fs
    rows_more key own row adds es fs at over q = by (key_eq q (key_view key)) refl
      where
        by : (b : Bool) → key_eq q (key_view key) ≡ b
            → IsRowOver d (filter (λ w. in_row spans (suc n) q w.keys) us) (row_found fs q)
        by true same =
            let is : q ≡ key_view key = (key_decides q (key_view key)).0 same in
            over_parts d us (λ w. in_row spans n q w.keys) (λ w. is_at spans n w.keys)
            (λ w. in_row spans (suc n) q w.keys) (row_found es q) (row_found fs q) row
            (of_each _ us (λ w c. let one = one_id spans n w.keys in
            parts (key_eq q (padded 6 w.keys)) (is_below spans n w.keys) (is_at spans n w.keys)
            (is_below spans (suc n) w.keys) one.0 one.1
            (λ at. (key_decides q (padded 6 w.keys)).1 (is ∙ sym (own w.keys at)))))
            (over q) adds (base_row d.aggregates (key_view key) row es fs at q is)
        by false other = coe 1 0 (i. IsRowOver d (filter_each us (λ w c.
            apart (key_eq q (padded 6 w.keys)) (is_below spans n w.keys) (is_at spans n w.keys)
            (is_below spans (suc n) w.keys) (one_id spans n w.keys).0
            (λ there. ap (key_eq q) (own w.keys there) ∙ other)) i)
            (other_row d.aggregates (key_view key) row es fs at q other i)) (over q)

-- ---- the keys of a position

at_is : (r : Option ℕ) (n : ℕ) → option_eq nat_eq r (Some n) ≡ true → r ≡ Some n
at_is None n e = absurd (true≢false (sym e))
at_is (Some p) n e = ap Some (eqb-true p n e)

pub own_id : (spans : List Span) (n : ℕ) (keys : List KeyValue) → is_at spans n keys ≡ true
    → group_id spans keys ≡ Some n
own_id spans n keys e = at_is (group_id spans keys) n e

-- ---- the total, with the rows of the first positions merged in

abbrev pub IsSummed : ArrayStore → ℕ → Row → Type 0
IsSummed s n total =
    (puts : List Update) → Has s puts
    → HasAggregates (group_view s) (puts_below s.spans.items n puts) total

module _ (s : ArrayStore) where
  pub sum_start : IsSummed s 0 s.rest.total
  sum_start puts is = subst (λ ws. HasAggregates (group_view s) ws s.rest.total)
      (filter_each puts (λ w c. sym (none_below s.spans.items w.keys))) is.rest.total

  pub sum_end : (n : ℕ) → n ≡ id_count s.spans.items → (total : Row) → IsSummed s n total
      → (puts : List Update) → Has s puts → HasAggregates (group_view s) puts total
  sum_end n same total summed puts is = subst (λ ws. HasAggregates (group_view s) ws total)
      (filter_each puts (λ w c. all_below s.spans.items w.keys n same) ∙ filter_all puts)
      (summed puts is)

  module _ (n : ℕ) (here : n < length s.seen.items) (total : Row)
      (summed : IsSummed s n total) where
    pub sum_skip : get_or s.seen.items n false ≡ false → IsSummed s (suc n) total
    sum_skip marked puts is = coe 1 0 (i. HasAggregates (group_view s) (filter_each puts
        (none_more s.spans.items n puts (none_there _ _ _ _ _ _ puts is n here s.long marked)) i)
        total) (summed puts is)

    module _ (row : Row) (marked : get_or s.seen.items n false ≡ true)
        (at : IsRowAt (group_view s) s.seen.items s.cells.items n row) where
      -- an aggregate of the total and that of the row
      both : (puts : List Update) → Has s puts → (a : ℕ) → a < length (group_view s).aggregates
          → merged (aggregate_at (group_view s).aggregates a) (get_or total a None)
          (get_or row a None) ≡ held (aggregate_at (group_view s).aggregates a)
          (numbers_for a (puts_below s.spans.items (suc n) puts))
      both puts is a h =
          let adds = (row_there _ _ _ _ _ _ puts is n here s.long row marked at).1 in
          (λ i. merged (aggregate_at (group_view s).aggregates a) (summed puts is a h i)
          (adds a h i))
          ∙ sym (held_parts (aggregate_at (group_view s).aggregates a) a _ _ _ puts
          (split_at s.spans.items n puts))

      pub sum_more : (new : Row) → IsMerged (group_view s).aggregates total row new
          → IsSummed s (suc n) new
      sum_more new merges puts is a h = merges a h ∙ both puts is a h

      pub sum_stays : MergeStays (group_view s).aggregates total row
      sum_stays = ∥∥₁_elim s.room
          (let prop : IsProp (MergeStays (group_view s).aggregates total row) = hlevel Bool-set in
          prop)
          (λ r a h. ap (leaves (aggregate_at (group_view s).aggregates a)) (both r.0 r.1 a h)
          ∙ r.2 (is_below s.spans.items (suc n)) a h)
