-- The base rows of puts, with one put more.
use Rattle.star_group.{proofs.Common.{Entry, Row, RowKey, ◌≡◌, ℕ, Bool, true, false, List, [], ◌∷◌, Option, Some, None, length, get_or, cond, ap, sym, ◌∙◌, refl, subst, filter, unwrap_or, Aggregate, numbers_for, KeyValue, leaves, Update, aggregate_at, KeyPart, AreGrouped, HasAggregates, HasBaseWithRoom, IsBase, IsRowOver, key_view, puts_with, row_found, key_eq, padded, IsMerged, IsMergedAt, IsMergedInto, IsRowOfOnePut, MergeStays, RowsStay, cell_of_one_put, merged, Group, put_number, AreInBits}, specs.Cells.held, proofs.Filters.filter_all, proofs.GroupKeys.{key_decides, key_equiv}, proofs.Merging.{held_none, held_one, merged_comm, merged_more, no_puts, row_of_one}}
use Rattle.std.proofs.Common.{arith}

-- ---- look-ups after a row was merged in

module _ (gs : List Aggregate) (key : RowKey) (more : Row)
    (es fs : List Entry) (at : IsMergedAt gs key more es fs) where
  pub base_row : (q : RowKey) → q ≡ key → IsMergedInto gs more (row_found es q) (row_found fs q)
  base_row q e = (
    at.0,
    at.2 q ∙ ap (λ b. cond b (Some at.0) (row_found es q))
        (ap (λ k. key_eq k key) e ∙ key_equiv.refl key),
    subst (λ k. IsMerged gs (unwrap_or (row_found es k) []) more at.0) (sym e) at.1,
  )

  pub other_row : (q : RowKey) → key_eq q key ≡ false → row_found fs q ≡ row_found es q
  other_row q apart = at.2 q ∙ ap (λ b. cond b (Some at.0) (row_found es q)) apart

-- ---- one put more

module _ (d : Group) (us : List Update) (u : Update) (row : Row)
    (one : IsRowOfOnePut d.aggregates u.values row) where
  pub more_over : (found new : Option Row) → IsRowOver d us found
      → IsMergedInto d.aggregates row found new → IsRowOver d (u ∷ us) new
  more_over None new was m = grind (arith, no_puts, row_of_one)
  more_over (Some held_row) new was m = subst (IsRowOver d (u ∷ us)) (sym m.1)
      (refl, merged_more d u us held_row row m.0 one was.1 m.2)

  -- no SUM and no COUNT leaves its bits
  pub merge_stays : (all : List Update) (p : List KeyValue → Bool) → AreInBits d all
      → filter (λ w. p w.keys) all ≡ u ∷ us → (held_row : Row)
      → HasAggregates d us held_row → MergeStays d.aggregates held_row row
  merge_stays all p room is held_row so_far = λ index h.
      let g = aggregate_at d.aggregates index in
      ap (leaves g)
      ((λ i. merged g (so_far index h i) (one index h i))
      ∙ merged_comm g (held g (numbers_for index us))
      (Some (cell_of_one_put g (put_number index u)))
      ∙ sym (held_one g (put_number index u) (numbers_for index us))
      ∙ ap (λ ws. held g (numbers_for index ws)) (sym is))
      ∙ room p index h

  pub rows_stay : (all : List Update) (p : List KeyValue → Bool) → AreInBits d all
      → filter (λ w. p w.keys) all ≡ u ∷ us → (found : Option Row)
      → IsRowOver d us found → RowsStay d.aggregates found row
  rows_stay all p room is None was = tt
  rows_stay all p room is (Some held_row) was = merge_stays all p room is held_row was.1

  pub total_stays : AreInBits d (u ∷ us) → (all : Row) → HasAggregates d us all
      → MergeStays d.aggregates all row
  total_stays room = merge_stays (u ∷ us) (λ ks. true) room (filter_all (u ∷ us))

module _ (d : Group) (us : List Update) (u : Update) (key : List KeyPart) (row : Row)
    (is_key : key_view key ≡ padded 6 u.keys) (one : IsRowOfOnePut d.aggregates u.values row)
    (es : List Entry) (all : Row) (base : IsBase d es all us) where
  with_own : (q : RowKey) → key_eq q (padded 6 u.keys) ≡ true
      → puts_with q (u ∷ us) ≡ u ∷ puts_with q us
  with_own q e = ap (λ b. cond b (u ∷ puts_with q us) (puts_with q us)) e

  with_other : (q : RowKey) → key_eq q (padded 6 u.keys) ≡ false
      → puts_with q (u ∷ us) ≡ puts_with q us
  with_other q e = ap (λ b. cond b (u ∷ puts_with q us) (puts_with q us)) e

  pub base_more : length u.keys ≡ d.count → (fs : List Entry) (total : Row)
      → IsMergedAt d.aggregates (key_view key) row es fs → IsMerged d.aggregates all row total
      → IsBase d fs total (u ∷ us)
  base_more fits fs total at is_total = record {
    fit = (fits, base.fit);
    rows = λ q. by q (key_eq q (padded 6 u.keys)) refl;
    total = merged_more d u us all row total one base.total is_total;
  }
    where
      by : (q : RowKey) (b : Bool) → key_eq q (padded 6 u.keys) ≡ b
          → IsRowOver d (puts_with q (u ∷ us)) (row_found fs q)
      by q true e = subst (λ ps. IsRowOver d ps (row_found fs q)) (sym (with_own q e))
          (more_over d (puts_with q us) u row one (row_found es q) (row_found fs q) (base.rows q)
          (base_row d.aggregates (key_view key) row es fs at q
          ((key_decides q (padded 6 u.keys)).0 e ∙ sym is_key)))
      by q false e = subst (λ ps. IsRowOver d ps (row_found fs q)) (sym (with_other q e))
          (subst (IsRowOver d (puts_with q us))
          (sym (other_row d.aggregates (key_view key) row es fs at q
          (ap (key_eq q) is_key ∙ e))) (base.rows q))

  pub base_stays : AreInBits d (u ∷ us) → RowsStay d.aggregates (row_found es (key_view key)) row
  base_stays room =
      let q : RowKey = padded 6 u.keys in
      subst (λ r. RowsStay d.aggregates r row) (sym (ap (row_found es) is_key))
      (rows_stay d (puts_with q us) u row one (u ∷ us) (λ ks. key_eq q (padded 6 ks)) room
      (with_own q (key_equiv.refl q)) (row_found es q) (base.rows q))

-- no puts
pub no_rows : (d : Group) (es : List Entry) → es ≡ [] → AreGrouped d es []
no_rows d es e = subst (λ xs. AreGrouped d xs []) (sym e) (record { fit = tt; rows = λ q. refl })

pub no_base : (d : Group) (es : List Entry) (blank : Row)
    → es ≡ [] → ((index : ℕ) → get_or blank index None ≡ None) → IsBase d es blank []
no_base d es blank e none = grind (arith, held_none)

-- ---- no puts are in their bits

pub no_room : (d : Group) → AreInBits d []
unfolding held
no_room d p index h = grind (arith, leaves)

pub new_room : (d : Group) (es : List Entry) (blank : Row)
    → es ≡ [] → ((index : ℕ) → get_or blank index None ≡ None) → HasBaseWithRoom d es blank
new_room d es blank e none = ∣ ([], no_base d es blank e none, no_room d) ∣₁
