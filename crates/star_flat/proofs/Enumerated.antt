-- Texts with their positions as numbers.
use Rattle.std.{proofs.Common.{◌≡◌, ℕ, zero, suc, ◌+◌, List, [], ◌∷◌, ◌++◌, ap, sym, ◌∙◌, arith, add-one, map}, proofs.lemmas.List.map-append, specs.List.range_with_len}
use Rattle.star_flat.specs.{declared.ordered.Numbered.Numbered, declared.ordered.Whole.Whole}

-- what a read past the end would give
abbrev pub nothing : Numbered
nothing = record { first = 0; second = 0; number = 0 }

abbrev pub no_whole : Whole
no_whole = record {
  first = 0;
  second = 0;
  text = record { ref_ptr = (0, 0); now = [] };
  number =
      0;
}

range_with_len-suc : (a n : ℕ) → range_with_len a (suc n) ≡ range_with_len a n ++ (a + n) ∷ []
range_with_len-suc a zero = let same : a ≡ a + 0 = omega arith in ap (λ m. m ∷ []) same
range_with_len-suc a (suc n) = grind (arith, range_with_len-suc (a + 1) n)

pub range_with_len-more : (n : ℕ) → range_with_len 0 (n + 1) ≡ range_with_len 0 n ++ n ∷ []
range_with_len-more n = let same : 0 + n ≡ n = omega arith in
    ap (range_with_len 0) (add-one n) ∙ range_with_len-suc 0 n
    ∙ ap (λ m. range_with_len 0 n ++ m ∷ []) same

module _ {X : Type 0} (f : X → ℕ) (old new : List X) (e : X) (pushed : new ≡ old ++ e ∷ []) where
  pub map_pushed : map f new ≡ map f old ++ f e ∷ []
  map_pushed = ap (map f) pushed ∙ map-append f old (e ∷ [])

  -- one more text with its position
  pub more_numbers : (n : ℕ) → f e ≡ n → map f old ≡ range_with_len 0 n
      → map f new ≡ range_with_len 0 (n + 1)
  more_numbers n is so_far = map_pushed ∙ (λ i. so_far i ++ is i ∷ []) ∙ sym (range_with_len-more n)
