-- The row with a key of one number.
use Rattle.std.{proofs.Common.{◌≡◌, ◌∷◌, ◌∙◌, ℕ, ℤ, List, [], All, Option, Some, None, get_or, length, map, sym, ap, arith}, proofs.lemmas.Bool.Decides.Decides-int_eq, proofs.lemmas.Cmp.int_eq_equiv, proofs.lemmas.Option.{get_or_from_slice_get, slice_get-map, slice_get_within}, specs.Prelude.◌↔◌, specs.List.slice_get, specs.Option.option_map, specs.Ordering.int_eq}
use Rattle.star_catalogue.specs.Private.Indexes.{AreIndexes}

one_numbers : (o : Option ℤ) (n : ℤ) → option_map (λ (m : ℤ). m ∷ []) o ≡ Some (n ∷ []) → o ≡ Some n
one_numbers None n e = cc
one_numbers (Some m) n e = let same : m ≡ n = cc in ap (λ (k : ℤ). Some k) same

-- an index of keys of one number leads to the rows that have these keys
pub kept_one : (index : ℤ → Option ℕ) (numbers : List ℤ) (keys : List (List ℤ))
    → AreIndexes int_eq index numbers → keys ≡ map (λ n. n ∷ []) numbers
    → (key : ℤ) (row : ℕ) → (index key ≡ Some row) ↔ (slice_get keys row ≡ Some (key ∷ []))
kept_one index numbers keys h is key row =
    let mapped : slice_get keys row ≡ option_map (λ (m : ℤ). m ∷ []) (slice_get numbers row) =
    ap (λ (ks : List (List ℤ)). slice_get ks row) is
    ∙ slice_get-map (λ (m : ℤ). m ∷ []) numbers row in (
      λ e.
          let stands = (h.found key row).0 e in
          let same : key ≡ stands.stored = (Decides-int_eq key stands.stored).0 stands.equal in
          mapped
          ∙ ap (option_map (λ (m : ℤ). m ∷ []))
          (stands.there ∙ ap (λ (m : ℤ). Some m) (sym same)),
      λ at. (h.found key row).1 (record {
        stored = key;
        there = one_numbers (slice_get numbers row) key (sym mapped ∙ at);
        equal = int_eq_equiv.refl key;
      }),
    )

-- no row has a key of one number, where all have two
pub none_among_two : (keys : List (List ℤ)) (n : ℤ) → All (λ key. length key ≡ 2) keys
    → (row : ℕ) → (◌≡◌ {A = Option ℕ} None (Some row)) ↔ (slice_get keys row ≡ Some (n ∷ []))
none_among_two keys n two row = (
  λ e. cc e,
  λ at.
      let within = slice_get_within keys row (n ∷ []) at in
      let here = get_or_from_slice_get keys row (n ∷ []) [] at in
      let long : length (get_or keys row []) ≡ 2 = two row [] within in
      absurd (omega (arith, long, ap length here)),
)
