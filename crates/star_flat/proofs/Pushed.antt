-- One more at the end of a list.
use Rattle.std.{proofs.Common.{◌≡◌, ◌⊎◌, ℕ, ◌+◌, List, [], ◌∷◌, ◌++◌, Some, length, get_or, sym, ap, ◌∙◌, inl, inr, ⊎_elim, arith, length-append}, proofs.lemmas.Bool.cases_lt, proofs.lemmas.List.get_or_append_left, proofs.lemmas.Option.{get_or_from_slice_get, slice_get-get_or, slice_get_within}, specs.List.slice_get}

module _ {X : Type 0} (xs : List X) (y : X) where
  pushed_length : length (xs ++ y ∷ []) ≡ length xs + 1
  pushed_length = length-append xs (y ∷ [])

  pub pushed_here : slice_get (xs ++ y ∷ []) (length xs) ≡ Some y
  pushed_here = slice_get-get_or (xs ++ y ∷ []) (length xs) y (omega (arith, pushed_length))
      ∙ ap Some (go xs)
    where
      go : (zs : List X) → get_or (zs ++ y ∷ []) (length zs) y ≡ y
      go [] = λ i. y
      go (z ∷ zs) = go zs

  pub pushed_before : (n : ℕ) (x : X) → slice_get xs n ≡ Some x
      → slice_get (xs ++ y ∷ []) n ≡ Some x
  pushed_before n x at =
      let within = slice_get_within xs n x at in
      slice_get-get_or (xs ++ y ∷ []) n x (omega (arith, pushed_length, within))
      ∙ ap Some (get_or_append_left xs (y ∷ []) x n within ∙ get_or_from_slice_get xs n x x at)

  pub pushed_cases : (n : ℕ) (x : X) → slice_get (xs ++ y ∷ []) n ≡ Some x
      → (slice_get xs n ≡ Some x) ⊎ ((n ≡ length xs) × (y ≡ x))
  pushed_cases n x at =
      let within = slice_get_within (xs ++ y ∷ []) n x at in
      ⊎_elim {C = (slice_get xs n ≡ Some x) ⊎ ((n ≡ length xs) × (y ≡ x))}
      (λ before. inl (slice_get-get_or xs n x before
      ∙ ap Some (sym (get_or_append_left xs (y ∷ []) x n before)
      ∙ get_or_from_slice_get (xs ++ y ∷ []) n x x at)))
      (λ from. let last : n ≡ length xs = omega (arith, pushed_length, within, from) in
      let there : Some y ≡ Some x =
      sym pushed_here ∙ ap (slice_get (xs ++ y ∷ [])) (sym last) ∙ at in
      inr (last, cc))
      (cases_lt n (length xs))
