-- The codes of texts that were put in order.
use Rattle.std.{proofs.Common.{◌≡◌, ℕ, ◌+◌, ◌-◌, ◌<◌, ◌≤◌, false, List, [], ◌∷◌, ◌++◌, Some, length, get_or, set, take, refl, sym, ap, ◌∙◌, inl, inr, ⊎_elim, arith, subst, true≢false}, proofs.lemmas.List.{ext_get_or, get_or-map, get_or_default, get_or-set_same, get_or-set_other, get_or-take, length-map, length-take}, proofs.lemmas.Bool.{cases_Bool, cases_eq, cases_lt}, proofs.lemmas.Cmp.{nat_list_cmp_total, tied_itself}, proofs.lemmas.List.Elements.{All-get_or, All-more, Contains-get_or}, proofs.lemmas.List.Kept.{Contains-from_dedup, IsStrictlySortedBy-dedup}, proofs.lemmas.Map.Keys.Less-from_sorted, proofs.lemmas.Map.Lookups.exact_bytes, proofs.lemmas.Option.{get_or_from_slice_get, slice_get-get_or, slice_get-map, slice_get_within}, specs.Cmp.Lexicographic.bytes_decides, specs.List.{Contains, slice_get}, specs.List.Sorted.IsStrictlySortedBy, specs.Option.option_map, specs.Ordering.{eq_by_cmp, is_eq}, specs.declared.cmp.Ordering.Ordering, specs.declared.cmp.Ordering.TheVariants.{Less, Equal, Greater}}
use Rattle.star_flat.{specs.Repeated.{AreRepeated, texts_at_indexes}, specs.declared.ordered.Numbered.Numbered, specs.Private.Codes.{LeadTo, different, same_text}, specs.Private.Order.{AreInTextOrder, numbered_texts, text_at, text_cmp}, proofs.Different.{different_again, different_new, stands_last}, proofs.Enumerated.nothing, proofs.InOrder.number_of}

-- ---- the different ones of texts in order are a dictionary
ties : (a b : List ℕ) → same_text a b ≡ eq_by_cmp text_cmp a b
ties a b = go (text_cmp a b) refl
  where
    unlike : is_eq (text_cmp a b) ≡ false → same_text a b ≡ false
    unlike other = elim (cases_Bool (same_text a b)) [
      | inl equal ↦
          absurd (true≢false (sym (ap (λ t. is_eq (text_cmp a t))
          (sym ((bytes_decides a b).0 equal)) ∙ ap is_eq (tied_itself nat_list_cmp_total a))
          ∙ other))
      | inr differ ↦ differ
    ]

    go : (o : Ordering) → text_cmp a b ≡ o → same_text a b ≡ eq_by_cmp text_cmp a b
    go Less e = unlike (ap is_eq e) ∙ sym (ap is_eq e)
    go Equal e = (bytes_decides a b).1 (exact_bytes a b e) ∙ sym (ap is_eq e)
    go Greater e = unlike (ap is_eq e) ∙ sym (ap is_eq e)

pub sorted_different : (texts : List (List ℕ)) (ordered : List Numbered)
    → AreInTextOrder texts ordered
    → IsStrictlySortedBy text_cmp (different (numbered_texts texts ordered))
sorted_different texts ordered order =
    IsStrictlySortedBy-dedup nat_list_cmp_total ties (numbered_texts texts ordered) order.sorted

-- a text stands at one position of texts that are strictly in order
not_before : (ts : List (List ℕ)) → IsStrictlySortedBy text_cmp ts → (m n : ℕ) (t : List ℕ)
    → slice_get ts m ≡ Some t → slice_get ts n ≡ Some t → m < n → ⊥
not_before ts sorted m n t at_m at_n before =
    let less : text_cmp t t ≡ Less =
    (λ i. text_cmp (sym (get_or_from_slice_get ts m t [] at_m) i)
    (sym (get_or_from_slice_get ts n t [] at_n) i))
    ∙ Less-from_sorted text_cmp ts m n [] sorted before (slice_get_within ts n t at_n) in
    true≢false (sym (ap is_eq (tied_itself nat_list_cmp_total t)) ∙ ap is_eq less)

one_index : (ts : List (List ℕ)) → IsStrictlySortedBy text_cmp ts → (m n : ℕ) (t : List ℕ)
    → slice_get ts m ≡ Some t → slice_get ts n ≡ Some t → m ≡ n
one_index ts sorted m n t at_m at_n = ⊎_elim {C = m ≡ n}
    (λ before. absurd (not_before ts sorted m n t at_m at_n before))
    (λ from. ⊎_elim {C = m ≡ n}
    (λ after. absurd (not_before ts sorted n m t at_n at_m after))
    (λ upto. omega (arith, from, upto))
    (cases_lt n m))
    (cases_lt m n)

module _ (texts : List (List ℕ)) (ordered : List Numbered)
    (order : AreInTextOrder texts ordered) where
  -- ---- the codes are the positions of the texts there
  module _ (put : List (List ℕ)) (codes : List ℕ)
      (made : put ≡ different (numbered_texts texts ordered))
      (few : length put ≤ length texts) (len : length codes ≡ length texts)
      (lead : LeadTo put codes texts ordered) where
    coded_at : (n : ℕ) → n < length texts → slice_get put (get_or codes n 0) ≡ slice_get texts n
    coded_at n h =
        let there = order.all n h in
        let within : there.0 < length ordered =
        omega (arith, there.1, length-map ordered number_of) in
        let is : (get_or ordered there.0 nothing).number ≡ n =
        sym (get_or-map number_of ordered there.0 nothing n within) ∙ there.2 in
        subst (λ m. slice_get put (get_or codes m 0) ≡ slice_get texts m) is
        (All-get_or
        (λ (x : Numbered). slice_get put (get_or codes x.number 0) ≡ slice_get texts x.number)
        ordered there.0 nothing within lead)

    stands_at : (n : ℕ) → n < length codes
        → slice_get put (get_or codes n 0) ≡ Some (get_or texts n [])
    stands_at n h =
        let within : n < length texts = omega (arith, h, len) in
        coded_at n within ∙ slice_get-get_or texts n [] within

    pub texts_coded : texts_at_indexes put codes ≡ texts
    texts_coded = ext_get_or [] (texts_at_indexes put codes) texts
        (length-map codes (λ index. get_or put index []) ∙ len)
        (λ i h. let within : i < length codes =
        omega (arith, h, length-map codes (λ index. get_or put index [])) in
        get_or-map (λ index. get_or put index []) codes i 0 [] within
        ∙ get_or_from_slice_get put (get_or codes i 0) (get_or texts i []) [] (stands_at i within))

    -- each text that was put is that of a number
    number_put : (p : ℕ) → p < length put
        → (n : ℕ) × (n < length texts) × (get_or texts n [] ≡ get_or put p [])
    number_put p h =
        let text = get_or put p [] in
        let there = Contains-from_dedup same_text (numbered_texts texts ordered) text
        (subst (λ ts. Contains ts text) made (Contains-get_or put p [] h)) in
        let within : there.0 < length ordered =
        omega (arith, there.1, length-map ordered (text_at texts)) in
        let e = get_or ordered there.0 nothing in (
          e.number,
          All-get_or (λ (x : Numbered). x.number < length texts) ordered there.0 nothing within
              order.within,
          sym (get_or-map (text_at texts) ordered there.0 nothing text within) ∙ there.2,
        )

    met : (p : ℕ) → p < length put → Contains codes p
    met p h =
        let there = number_put p h in
        let within : there.0 < length codes = omega (arith, there.1, len) in
        let code : get_or codes there.0 0 ≡ p =
        one_index put (rw made (sorted_different texts ordered order)) (get_or codes there.0 0) p
        (get_or put p []) (stands_at there.0 within ∙ ap Some there.2)
        (slice_get-get_or put p [] h) in
        (there.0, within, get_or_default codes there.0 p 0 within ∙ code)

    pub codes_met : AreRepeated put codes
    codes_met = record {
      within = λ k d h.
          let code = get_or_default codes k d 0 h in
          let inside = slice_get_within put (get_or codes k 0) (get_or texts k [])
          (stands_at k h) in
          omega (arith, code, inside);
      met = met;
      few = omega (arith, few, len);
    }

  -- ---- the text at a position
  module _ (index : ℕ) (within : index < length ordered) where
    abbrev pub here : Numbered
    here = get_or ordered index nothing

    pub number_within : here.number < length texts
    number_within = All-get_or (λ (x : Numbered). x.number < length texts) ordered index nothing
        within order.within

    pub text_here : slice_get (numbered_texts texts ordered) index ≡ Some (text_at texts here)
    text_here = slice_get-map (text_at texts) ordered index
        ∙ ap (option_map (text_at texts)) (slice_get-get_or ordered index nothing within)

    text_known : slice_get texts here.number ≡ Some (text_at texts here)
    text_known = slice_get-get_or texts here.number [] number_within

    pub put_again : (put : List (List ℕ))
        → put ≡ different (take index (numbered_texts texts ordered)) → 0 < index
        → slice_get (numbered_texts texts ordered) (index - 1)
        ≡ slice_get (numbered_texts texts ordered) index
        → put ≡ different (take (index + 1) (numbered_texts texts ordered))
    put_again put is some same =
        is ∙ sym (different_again (numbered_texts texts ordered) index (text_at texts here)
        text_here some
        same)

    pub put_new : (old new : List (List ℕ))
        → old ≡ different (take index (numbered_texts texts ordered))
        → ((0 < index) × (slice_get (numbered_texts texts ordered) (index - 1)
        ≡ slice_get (numbered_texts texts ordered) index) → ⊥)
        → new ≡ old ++ text_at texts here ∷ []
        → new ≡ different (take (index + 1) (numbered_texts texts ordered))
    put_new old new is other pushed = pushed ∙ (λ i. is i ++ text_at texts here ∷ [])
        ∙ sym (different_new (numbered_texts texts ordered) index (text_at texts here) text_here
        other)

    pub code_here : (put : List (List ℕ))
        → put ≡ different (take (index + 1) (numbered_texts texts ordered))
        → slice_get put (length put - 1) ≡ slice_get (numbered_texts texts ordered) index
    code_here put is =
        stands_last (numbered_texts texts ordered) index (text_at texts here) text_here put is

    pub some_put : (put : List (List ℕ))
        → put ≡ different (take (index + 1) (numbered_texts texts ordered)) → 0 < length put
    some_put put is =
        let last = slice_get_within put (length put - 1) (text_at texts here)
        (code_here put is ∙ text_here) in
        omega (arith, last)

    -- ---- one more code
    module _ (old new : List (List ℕ)) (codes : List ℕ) (code : ℕ)
        (room : here.number < length codes)
        (kept : (n : ℕ) (text : List ℕ) → slice_get old n ≡ Some text → slice_get new n ≡ Some text)
        (put : slice_get new code ≡ slice_get (numbered_texts texts ordered) index) where
      stands : slice_get new code ≡ slice_get texts here.number
      stands = put ∙ text_here ∙ sym text_known

      pub lead_more : LeadTo old codes texts (take index ordered)
          → LeadTo new (set codes here.number code) texts (take (index + 1) ordered)
      lead_more lead = All-more
          (λ (e : Numbered). slice_get new (get_or (set codes here.number code) e.number 0)
          ≡ slice_get texts e.number) ordered index nothing within earlier
          (ap (slice_get new) (get_or-set_same codes here.number code 0 room) ∙ stands)
        where
          earlier : (k : ℕ) (d : Numbered) → k < length (take index ordered) → slice_get new
              (get_or (set codes here.number code) (get_or (take index ordered) k d).number 0)
              ≡ slice_get texts (get_or (take index ordered) k d).number
          earlier k d h =
              let e = get_or (take index ordered) k d in
              let few : k < index = let is = length-take index ordered in omega (arith, h, is) in
              let is : e ≡ get_or ordered k d = get_or-take index ordered k d few in
              let inside : e.number < length texts =
              subst (λ (x : Numbered). x.number < length texts) (sym is)
              (order.within k d (omega (arith, few, within))) in
              let known = slice_get-get_or texts e.number [] inside in
              ⊎_elim {C = slice_get new (get_or (set codes here.number code) e.number 0)
              ≡ slice_get texts e.number}
              (λ same. ap (λ m. slice_get new (get_or (set codes here.number code) m 0)) same
              ∙ ap (slice_get new) (get_or-set_same codes here.number code 0 room) ∙ stands
              ∙ ap (slice_get texts) (sym same))
              (λ other. ap (slice_get new)
              (get_or-set_other codes here.number e.number code 0 other)
              ∙ kept (get_or codes e.number 0) (text_at texts e) (lead k d h ∙ known)
              ∙ sym known)
              (cases_eq e.number here.number)
