-- Indexes in a dictionary: how they compare, and which texts stand there.
use Rattle.std.{proofs.Common.{◌≡◌, ℕ, zero, suc, ◌+◌, ◌<◌, ◌≤◌, true, false, List, [], Some, length, get_or, refl, sym, ap, ◌∙◌, arith, ⊎_elim, nat_lt, nat_cmp}, specs.List.{slice_get, Contains}, specs.List.Sorted.IsStrictlySortedBy, specs.Ordering.{is_lt, is_le, ordering_reverse}, specs.declared.cmp.Ordering.TheVariants.{Less, Greater}, proofs.lemmas.Bool.{cases_lt, cases_eq}, proofs.lemmas.Cmp.{nat_list_cmp_total, nat_cmp_total, tied_itself}, proofs.lemmas.Map.Keys.Less-from_sorted, proofs.lemmas.Option.{get_or_from_slice_get, slice_get-get_or, slice_get_within}, proofs.lemmas.Bool.Decides.nat_tests, proofs.lemmas.List.Sums.count_by-le-length}
use Rattle.star_schema.{specs.Dictionary.{text_cmp, dictionary_of, low_in, high_in}, proofs.Dictionaries.IsDictionary-dictionary_of, proofs.Edges.partitioned, proofs.Fronts.nat_lt-count_by}

below : (m n : ℕ) → nat_lt m n ≡ true → m < n
below m n e = grind (arith, nat_tests)

nat_cmp-less : (m n : ℕ) → m < n → nat_cmp m n ≡ Less
nat_cmp-less m n h = grind (arith, nat_tests)

nat_cmp-greater : (m n : ℕ) → n < m → nat_cmp m n ≡ Greater
nat_cmp-greater m n h = nat_cmp_total.antisymm m n ∙ ap ordering_reverse (nat_cmp-less n m h)

not_below : (m n : ℕ) → nat_lt m n ≡ false → n ≤ m
not_below m n e = grind (arith, nat_tests)

module _ (ds : List (List ℕ)) (sorted : IsStrictlySortedBy text_cmp ds) where
  -- a position is below `low` exactly where the text there is less
  pub nat_lt-low_in : (n : ℕ) (d t : List ℕ) → slice_get ds n ≡ Some d
      → nat_lt n (low_in ds t) ≡ is_lt (text_cmp d t)
  nat_lt-low_in n d t e =
      nat_lt-count_by (λ x. is_lt (text_cmp x t)) ds n [] (partitioned is_lt refl refl t ds sorted)
      (slice_get_within ds n d e)
      ∙ ap (λ x. is_lt (text_cmp x t)) (get_or_from_slice_get ds n d [] e)

  -- a position is below `high` exactly where the text there is less or equal
  pub nat_lt-high_in : (n : ℕ) (d t : List ℕ) → slice_get ds n ≡ Some d
      → nat_lt n (high_in ds t) ≡ is_le (text_cmp d t)
  nat_lt-high_in n d t e =
      nat_lt-count_by (λ x. is_le (text_cmp x t)) ds n []
      (partitioned is_le refl refl t ds sorted) (slice_get_within ds n d e)
      ∙ ap (λ x. is_le (text_cmp x t)) (get_or_from_slice_get ds n d [] e)

  less_before : (m n : ℕ) (s t : List ℕ) → slice_get ds m ≡ Some s → slice_get ds n ≡ Some t → m < n
      → text_cmp s t ≡ Less
  less_before m n s t at_m at_n before =
      (λ i. text_cmp (sym (get_or_from_slice_get ds m s [] at_m) i)
      (sym (get_or_from_slice_get ds n t [] at_n) i))
      ∙ Less-from_sorted text_cmp ds m n [] sorted before (slice_get_within ds n t at_n)

  -- positions compare as the texts there do
  pub nat_cmp-indexes : (m n : ℕ) (s t : List ℕ) → slice_get ds m ≡ Some s → slice_get ds n ≡ Some t
      → nat_cmp m n ≡ text_cmp s t
  nat_cmp-indexes m n s t at_m at_n =
      ⊎_elim {C = nat_cmp m n ≡ text_cmp s t}
      (λ before. nat_cmp-less m n before ∙ sym (less_before m n s t at_m at_n before))
      (λ from. ⊎_elim {C = nat_cmp m n ≡ text_cmp s t} (at_one m n s t at_m at_n)
      (λ other. let after : n < m = omega (arith, from, other) in
      nat_cmp-greater m n after
      ∙ sym (nat_list_cmp_total.antisymm s t
      ∙ ap ordering_reverse (less_before n m t s at_n at_m after)))
      (cases_eq m n))
      (cases_lt m n)
    where
      at_one : (m n : ℕ) (s t : List ℕ) → slice_get ds m ≡ Some s → slice_get ds n ≡ Some t → m ≡ n
          → nat_cmp m n ≡ text_cmp s t
      at_one m n s t at_m at_n same =
          let there : Some s ≡ Some t = sym at_m ∙ ap (slice_get ds) same ∙ at_n in
          let texts : s ≡ t = cc in
          ap (nat_cmp m) (sym same) ∙ tied_itself nat_cmp_total m
          ∙ sym (tied_itself nat_list_cmp_total s) ∙ ap (text_cmp s) texts

  -- the position of a text is how many texts are less
  pub low_in-index : (n : ℕ) (d : List ℕ) → slice_get ds n ≡ Some d → low_in ds d ≡ n
  low_in-index n d e =
      let upto = not_below n (low_in ds d)
      (nat_lt-low_in n d d e ∙ ap is_lt (tied_itself nat_list_cmp_total d)) in
      let from = all_before n e in
      omega (arith, upto, from)
    where
      all_before : (m : ℕ) → slice_get ds m ≡ Some d → m ≤ low_in ds d
      all_before zero e = omega arith
      all_before (suc k) e =
          let within = slice_get_within ds (suc k) d e in
          let there = slice_get-get_or ds k [] (omega arith) in
          let less = less_before k (suc k) (get_or ds k []) d there e (omega arith) in
          below k (low_in ds d) (nat_lt-low_in k (get_or ds k []) d there ∙ ap is_lt less)

  -- with the text itself it is one more
  pub high_in-index : (n : ℕ) (d : List ℕ) → slice_get ds n ≡ Some d → high_in ds d ≡ n + 1
  high_in-index n d e =
      let from = below n (high_in ds d)
      (nat_lt-high_in n d d e ∙ ap is_le (tied_itself nat_list_cmp_total d)) in
      let upto : high_in ds d ≤ n + 1 = ⊎_elim {C = high_in ds d ≤ n + 1}
      (λ more. let there = slice_get-get_or ds (n + 1) [] more in
      let greater : text_cmp (get_or ds (n + 1) []) d ≡ Greater =
      nat_list_cmp_total.antisymm (get_or ds (n + 1) []) d
      ∙ ap ordering_reverse
      (less_before n (n + 1) d (get_or ds (n + 1) []) e there (omega arith)) in
      not_below (n + 1) (high_in ds d)
      (nat_lt-high_in (n + 1) (get_or ds (n + 1) []) d there ∙ ap is_le greater))
      (λ none. let few = count_by-le-length (λ x. is_le (text_cmp x d)) ds in
      omega (arith, none, few))
      (cases_lt (n + 1) (length ds)) in
      omega (arith, from, upto)

  -- a text of the dictionary stands at the position that `low` gives
  pub slice_get-low_in : (t : List ℕ) → Contains ds t → slice_get ds (low_in ds t) ≡ Some t
  slice_get-low_in t h =
      let there : slice_get ds h.0 ≡ Some t = slice_get-get_or ds h.0 t h.1 ∙ ap Some h.2 in
      ap (slice_get ds) (low_in-index h.0 t there) ∙ there

module _ (texts : List (List ℕ)) where
  -- a text of the column has its code for a position
  pub has_code : (t : List ℕ) → Contains texts t
      → slice_get (dictionary_of texts) (low_in (dictionary_of texts) t) ≡ Some t
  has_code t h = let made =
      IsDictionary-dictionary_of texts in
      slice_get-low_in (dictionary_of texts) made.sorted t ((made.holds t).1 h)

  pub code_within : (t : List ℕ) → Contains texts t
      → low_in (dictionary_of texts) t < length (dictionary_of texts)
  code_within t h =
      slice_get_within (dictionary_of texts) (low_in (dictionary_of texts) t) t (has_code t h)
