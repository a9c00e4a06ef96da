-- What stands in a row that a store gives.
use Rattle.std.proofs.lemmas.List.{nil_from_length}
use Rattle.star_group.proofs.Common.{Entry, Row, ◌≡◌, ℕ, zero, suc, ◌<◌, ◌≤◌, List, [], ◌∷◌, ◌++◌, Option, Some, None, length, get_or, map, take, ap, refl, sym, ◌∙◌, arith, get_or-take, get_or_past, length-take, Aggregate, key_view, all_rolled_up, nothing_given, row_shown, shown, row_at}

module _ (nothing : Option Row) (count : ℕ) where
  pub key_shown : (es : List Entry) (number index : ℕ) → index < count
      → get_or (key_view (get_or es number ([], [])).0) index None
      ≡ get_or (row_at (map (row_shown nothing count) es) number).keys index None
  key_shown [] number index h = refl
  key_shown (e ∷ es) zero index h = sym (get_or-take count (key_view e.0) index None h)
  key_shown (e ∷ es) (suc number) index h = key_shown es number index h

  pub no_key : (es : List Entry) (number index : ℕ) → count ≤ index
      → None ≡ get_or (row_at (map (row_shown nothing count) es) number).keys index None
  no_key [] number index h = refl
  no_key (e ∷ es) zero index h = sym (get_or_past (take count (key_view e.0)) index None
      (omega (arith, h, length-take count (key_view e.0))))
  no_key (e ∷ es) (suc number) index h = no_key es number index h

pub aggregates_shown : (count : ℕ) (es : List Entry) (number : ℕ)
    → (get_or es number ([], [])).1 ≡ (row_at (map (row_shown None count) es) number).totals
aggregates_shown count [] number = refl
aggregates_shown count (e ∷ es) zero = refl
aggregates_shown count (e ∷ es) (suc number) = aggregates_shown count es number

pub nothing_shown : (row : Row) (count : ℕ) (es : List Entry) (number : ℕ) → number < length es
    → row ≡ (row_at (map (row_shown (Some row) count) es) number).totals
nothing_shown row count [] number h = absurd (omega (arith, h))
nothing_shown row count (e ∷ es) zero h = refl
nothing_shown row count (e ∷ es) (suc number) h =
    nothing_shown row count es number (omega (arith, h))

-- the only row, over no puts
pub nothing_row : (count : ℕ) (gs : List Aggregate) (shows row : Row) (es fs : List Entry)
    → length es ≡ 0 → fs ≡ es ++ (all_rolled_up, row) ∷ [] → shows ≡ map (λ g. shown g None) gs
    → map (row_shown (Some shows) count) fs ≡ nothing_given count gs
nothing_row count gs shows row es fs none is e = λ i. map (row_shown (Some (e i)) count)
    ((is ∙ ap (λ xs. xs ++ (all_rolled_up, row) ∷ []) (nil_from_length es none)) i)
