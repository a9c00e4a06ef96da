-- Rows in flat storage: how many there are, what stands at a number, and what is gathered.
use Rattle.std.{proofs.Common.{◌≡◌, ◌<◌, ◌≤◌, ◌*◌, ◌+◌, ℕ, zero, suc, List, [], ◌∷◌, length, map, get_or, take, drop, ap, sym, refl, ◌∙◌, arith}, proofs.lemmas.List.{drop-drop, get_or_past, length-append}, proofs.Math.Nat.{add_comm, suc-mul, zero-mul}, proofs.Math.Seq.{drop-append_seam, take-append_seam}, specs.List.flat_map}
use Rattle.star_program.specs.Rows.{cut}

module _ {A : Type 0} (w : ℕ) where
  pub length-cut : (n : ℕ) (items : List A) → length (cut w n items) ≡ n
  unfolding cut
  length-cut zero items = refl
  length-cut (suc n) items = ap suc (length-cut n (drop w items))

  pub cut_at : (n : ℕ) (items : List A) (i : ℕ) → i < n
      → get_or (cut w n items) i [] ≡ take w (drop (i * w) items)
  unfolding cut
  cut_at zero items i h = absurd (omega (arith, h))
  cut_at (suc n) items zero h = ap (λ m. take w (drop m items)) (sym (zero-mul w))
  cut_at (suc n) items (suc i) h =
      cut_at n (drop w items) i (omega (arith, h))
      ∙ ap (take w) (drop-drop (i * w) w items
      ∙ ap (λ m. drop m items) (add_comm w (i * w) ∙ sym (suc-mul i w)))

  pub cut_past : (n : ℕ) (items : List A) (i : ℕ) → n ≤ i → get_or (cut w n items) i [] ≡ []
  cut_past n items i past =
      get_or_past (cut w n items) i [] (omega (arith, past, length-cut n items))

-- rows that were gathered one after another are these rows again
module _ {A B : Type 0} (w : ℕ) (row : B → List A) (wide : (x : B) → length (row x) ≡ w) where
  pub length-rows : (xs : List B) → length (flat_map row xs) ≡ length xs * w
  length-rows [] = sym (zero-mul w)
  length-rows (x ∷ xs) =
      length-append (row x) (flat_map row xs) ∙ (λ i. wide x i + length-rows xs i)
      ∙ add_comm w (length xs * w) ∙ sym (suc-mul (length xs) w)

  pub cut_rows : (xs : List B) → cut w (length xs) (flat_map row xs) ≡ map row xs
  unfolding cut
  cut_rows [] = refl
  cut_rows (x ∷ xs) = grind (arith, cut_rows xs, take-append_seam, drop-append_seam)
