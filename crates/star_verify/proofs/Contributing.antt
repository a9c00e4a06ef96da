-- What a put gives one aggregate after another.
use Rattle.std.proofs.Common.{◌≡◌, ◌+◌, ◌<◌, ◌≤◌, ◌⊎◌, ◌∷◌, ℕ, zero, suc, List, Option, None, inl, ⊎_elim, arith, sym, subst}
use Rattle.star_verify.proofs.Common.{IsBounded, IsTally, IsTallyAt, IsTallyGrown, Share, Tally, eqb_tells, known_share, slice_index_or}
use Rattle.star_safety.specs.Ranges as ranges

-- a tally that stays as it was
same_tally : (old new : List Tally) (p : ℕ) (ss : List Share)
    → ((t : Tally) → slice_index_or new p t ≡ slice_index_or old p t)
    → IsTallyAt old p ss → IsTallyAt new p ss
same_tally old new p ss same h t = subst (λ tally. IsTally tally ss) (sym (same t)) (h t)

module _ (old mid new : List Tally) (first met n : ℕ) (one : Option ranges.Known)
    (rest : List (Option ranges.Known)) where
  pub given_more : ((ss : List Share) → IsTallyAt old first ss
      → IsTallyAt mid first (known_share met one ∷ ss))
      → ((p : ℕ) (t : Tally) → ((p ≡ first) → ⊥) → slice_index_or mid p t ≡ slice_index_or old p t)
      → ((a : ℕ) (ss : List Share) → a < n → IsTallyAt mid (first + 1 + a) ss
      → IsTallyAt new (first + 1 + a) (known_share met (slice_index_or rest a None) ∷ ss))
      → ((p : ℕ) (t : Tally) → (p < first + 1) ⊎ (first + 1 + n ≤ p)
      → slice_index_or new p t ≡ slice_index_or mid p t)
      → (a : ℕ) (ss : List Share) → a < suc n → IsTallyAt old (first + a) ss
      → IsTallyAt new (first + a) (known_share met (slice_index_or (one ∷ rest) a None) ∷ ss)
  given_more add keep contribute leave zero ss lt h =
      let here : first + 0 ≡ first = omega arith in
      subst (λ p. IsTallyAt new p (known_share met one ∷ ss)) (sym here)
      (same_tally mid new first _ (λ t. leave first t (inl (omega arith)))
      (add ss (subst (λ p. IsTallyAt old p ss) here h)))
  given_more add keep contribute leave (suc b) ss lt h =
      let there : first + suc b ≡ first + 1 + b = omega arith in
      subst (λ p. IsTallyAt new p (known_share met (slice_index_or rest b None) ∷ ss)) (sym there)
      (contribute b ss (omega (arith, lt))
      (same_tally old mid (first + 1 + b) ss
      (λ t. keep (first + 1 + b) t (λ e. omega (arith, e)))
      (subst (λ p. IsTallyAt old p ss) there h)))

  pub grown_more : ((t : Tally)
      → IsTallyGrown (slice_index_or old first t) (slice_index_or mid first t) met)
      → ((p : ℕ) (t : Tally) → ((p ≡ first) → ⊥) → slice_index_or mid p t ≡ slice_index_or old p t)
      → ((p : ℕ) (t : Tally) → IsBounded (slice_index_or mid p t)
      → IsTallyGrown (slice_index_or mid p t) (slice_index_or new p t) met)
      → ((p : ℕ) (t : Tally) → (p < first + 1) ⊎ (first + 1 + n ≤ p)
      → slice_index_or new p t ≡ slice_index_or mid p t)
      → (p : ℕ) (t : Tally) → IsBounded (slice_index_or old p t)
      → IsTallyGrown (slice_index_or old p t) (slice_index_or new p t) met
  grown_more add keep contribute leave p t bounded = grind (arith, ⊎_elim, eqb_tells)
