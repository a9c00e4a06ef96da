-- Texts by their keys, sorted.
use Rattle.std.{proofs.Common.{◌≡◌, ℕ, ◌+◌, ◌<◌, List, length, get_or, map, sym, ap, ◌∙◌, arith, subst, zero-add}, proofs.lemmas.List.{get_or-map, length-map}, proofs.lemmas.List.Elements.{All-get_or, All-map}, proofs.lemmas.List.FromFn.{get_or-range_with_len, length-range_with_len}, proofs.lemmas.List.Sorted.{All-permutation, Contains-permutation, IsPermutation-map, length_permutation}, proofs.lemmas.Simd.map-map, specs.List.{All, Contains, range_with_len}, specs.List.Sorted.{IsSorted, IsPermutation}, specs.Ordering.is_lt}
use Rattle.star_flat.{specs.Private.Order.{AreInTextOrder, IsKeyed, IsWhole, by_key, key_of, numbered_texts, text_at, text_cmp}, specs.declared.ordered.Numbered.Numbered, specs.declared.ordered.Whole.Whole, proofs.Enumerated.{no_whole, nothing}, proofs.Keys.{as_texts, by_whole, up_by_text}}

abbrev pub number_of : Numbered → ℕ
number_of e = e.number

abbrev pub whole_number : Whole → ℕ
whole_number e = e.number

index_within : (texts : List (List ℕ))
    → All (λ n. n < length texts) (range_with_len 0 (length texts))
index_within texts k d within =
    grind (arith, length-range_with_len, get_or-range_with_len, zero-add)

-- keys in the order of their texts, with each position as one's number
module _ (texts : List (List ℕ)) (ordered : List Numbered)
    (each : IsPermutation (range_with_len 0 (length texts)) (map number_of ordered))
    (keyed : All (IsKeyed texts) ordered)
    (sorted : IsSorted text_cmp (numbered_texts texts ordered)) where
  abbrev indexes : List ℕ
  indexes = range_with_len 0 (length texts)

  count : length ordered ≡ length texts
  count = grind (arith, length-map, length_permutation, length-range_with_len)

  each_within : All (λ e. e.number < length texts) ordered
  each_within k d within = subst (λ n. n < length texts) (get_or-map number_of ordered k d 0 within)
      (All-permutation (λ n. n < length texts) indexes (map number_of ordered) each
      (index_within texts) k 0
      (omega (arith, within, length-map ordered number_of)))

  each_number : (n : ℕ) → n < length texts → Contains (map number_of ordered) n
  each_number n within =
      Contains-permutation indexes (map number_of ordered) n each (
        n,
        omega (arith, within, length-range_with_len 0 (length texts)),
        get_or-range_with_len 0 (length texts) n n within ∙ zero-add n,
      )

  AreInOrder-each : AreInTextOrder texts ordered
  AreInOrder-each = record {
    len = count;
    sorted = sorted;
    within = each_within;
    keyed = keyed;
    all = each_number;
  }

module _ (texts : List (List ℕ)) (numbered ordered : List Numbered)
    (numbers : map number_of numbered ≡ range_with_len 0 (length texts))
    (keys : All (IsKeyed texts) numbered) (moved : IsPermutation numbered ordered)
    (sorted : IsSorted (by_key texts) ordered) where
  all_keyed : All (IsKeyed texts) ordered
  all_keyed = All-permutation (IsKeyed texts) numbered ordered moved keys

  in_order : IsSorted text_cmp (numbered_texts texts ordered)
  in_order k d from within =
      let few : k + 1 < length ordered =
      omega (arith, within, length-map ordered (text_at texts)) in
      let first = get_or-map (text_at texts) ordered k nothing d (omega (arith, few)) in
      let second = get_or-map (text_at texts) ordered (k + 1) nothing d few in
      (λ i. is_lt (text_cmp (second i) (first i)))
      ∙ ap is_lt (sym (as_texts texts (get_or ordered (k + 1) nothing) (get_or ordered k nothing)
      (All-get_or (IsKeyed texts) ordered (k + 1) nothing few all_keyed)
      (All-get_or (IsKeyed texts) ordered k nothing (omega (arith, few)) all_keyed)))
      ∙ sorted k nothing from few

  pub AreInOrder-sorted : AreInTextOrder texts ordered
  AreInOrder-sorted = AreInOrder-each texts ordered
      (subst (λ ns. IsPermutation ns (map number_of ordered)) numbers
      (IsPermutation-map number_of numbered ordered moved))
      all_keyed in_order

-- the same by fronts and texts at once
module _ (texts : List (List ℕ)) (wholes ordered : List Whole)
    (numbers : map whole_number wholes ≡ range_with_len 0 (length texts))
    (are : All (IsWhole texts) wholes) (moved : IsPermutation wholes ordered)
    (sorted : IsSorted by_whole ordered) where
  abbrev whole_text : Whole → List ℕ
  whole_text e = text_at texts (key_of e)

  each_whole : IsPermutation (range_with_len 0 (length texts)) (map number_of (map key_of ordered))
  each_whole = subst (IsPermutation (range_with_len 0 (length texts)))
      (sym (map-map number_of key_of ordered))
      (subst (λ ns. IsPermutation ns (map whole_number ordered)) numbers
      (IsPermutation-map whole_number wholes ordered moved))

  all_whole : All (IsWhole texts) ordered
  all_whole = All-permutation (IsWhole texts) wholes ordered moved are

  wholes_in_order : IsSorted text_cmp (map whole_text ordered)
  wholes_in_order k d from within =
      let few : k + 1 < length ordered =
      omega (arith, within, length-map ordered whole_text) in
      let first = get_or-map whole_text ordered k no_whole d (omega (arith, few)) in
      let second = get_or-map whole_text ordered (k + 1) no_whole d few in
      (λ i. is_lt (text_cmp (second i) (first i)))
      ∙ up_by_text texts (get_or ordered (k + 1) no_whole) (get_or ordered k no_whole)
      (All-get_or (IsWhole texts) ordered (k + 1) no_whole few all_whole)
      (All-get_or (IsWhole texts) ordered k no_whole (omega (arith, few)) all_whole)
      (sorted k no_whole from few)

  pub AreInOrder-wholes : AreInTextOrder texts (map key_of ordered)
  AreInOrder-wholes = AreInOrder-each texts (map key_of ordered) each_whole
      (All-map (IsKeyed texts) key_of ordered (λ k d within. (all_whole k d within).keyed))
      (subst (IsSorted text_cmp) (sym (map-map (text_at texts) key_of ordered)) wholes_in_order)
