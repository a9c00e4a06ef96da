-- The bounds of the columns, one column after another.
use Rattle.std.proofs.Common.{◌≡◌, ◌≢◌, ◌<◌, ◌≤◌, ◌+◌, true≢false, ℕ, Bool, true, false, List, length, get_or, arith, ap, sym, ◌∙◌, refl, get_or-set_other, get_or-set_same}
use Rattle.star_verify.proofs.Common.{AreBoundsBefore, AreFacts, COLUMNS, ColumnId, Decides-eqb, Interval, Sizes, TableId, World, at_index, column_same, get_or_from_slice_get, index_of, index_within, nat_eq, range_of, size_of, slice_set}

module _ (w : World) (bounds : List Interval) (k : ℕ) (d : ColumnId) (new : Interval) where
  pub one_more : length bounds ≡ 58 → AreBoundsBefore w bounds k
      → range_of new ≡ w.bounds (get_or COLUMNS k d)
      → AreBoundsBefore w (slice_set bounds (index_of (get_or COLUMNS k d)) new) (k + 1)
  one_more len are is c i before at = go (nat_eq (index_of (get_or COLUMNS k d)) (index_of c)) refl
    where
      column : ColumnId
      column = get_or COLUMNS k d

      go : (b : Bool) → nat_eq (index_of column) (index_of c) ≡ b → range_of i ≡ w.bounds c
      go true e =
          let same : column ≡ c = column_same column c e in
          let inside : index_of column < length bounds = omega (arith, index_within column, len) in
          let one : i ≡ new = at
          ∙ ap (λ n. get_or (slice_set bounds (index_of column) new) n i)
          (sym ((Decides-eqb (index_of column) (index_of c)).0 e))
          ∙ (rw get_or-set_same refl) in
          ap range_of one ∙ is ∙ ap w.bounds same
      go false e =
          let apart : index_of c ≢ index_of column =
          λ f. true≢false (sym ((Decides-eqb (index_of column) (index_of c)).1 (sym f)) ∙ e) in
          let other : index_of c ≢ k =
          λ f. apart (ap index_of (sym (ap (λ n. get_or COLUMNS n d) (sym f)
          ∙ get_or_from_slice_get COLUMNS (index_of c) c d (at_index c)))) in
          are c i (omega (arith, before, other)) (at ∙ (rw get_or-set_other refl))

pub all_facts : (w : World) (sizes : Sizes) (bounds : List Interval) (k : ℕ)
    → ((t : TableId) → size_of sizes t ≡ w.size t) → 58 ≤ k → AreBoundsBefore w bounds k
    → AreFacts w (record { sizes = sizes; bounds = bounds })
all_facts w sizes bounds k same past are = record {
  sizes = same;
  bounds = λ c i at. are c i (omega (arith, index_within c, past)) at;
}
