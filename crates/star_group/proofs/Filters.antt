-- Filters of lists.
use Rattle.star_group.proofs.Common.{◌≡◌, Bool, true, false, ◌&&◌, List, [], ◌∷◌, cond, ap, ◌∙◌, refl, filter, AllByRecursion, Contains, and-false, and-true, of_each}
use Rattle.std.proofs.Common.{arith}

module _ {A : Type 0} where
  filter_same : (a b : A → Bool) (xs : List A) → AllByRecursion (λ x. a x ≡ b x) xs
      → filter a xs ≡ filter b xs
  filter_same a b [] same = refl
  filter_same a b (x ∷ xs) same =
      λ i. cond (same.0 i) (x ∷ filter_same a b xs same.1 i) (filter_same a b xs same.1 i)

  -- tests that tell the same of each element
  pub filter_each : {a b : A → Bool} (xs : List A) → ((x : A) → Contains xs x → a x ≡ b x)
      → filter a xs ≡ filter b xs
  filter_each {a = a} {b = b} xs same = filter_same a b xs (of_each _ xs same)

  pub none_pass : (xs : List A) → filter (λ x. false) xs ≡ []
  none_pass [] = refl
  none_pass (x ∷ xs) = none_pass xs

  pub filter_none : {a : A → Bool} (xs : List A) → ((x : A) → Contains xs x → a x ≡ false)
      → filter a xs ≡ []
  filter_none xs none = filter_each xs none ∙ none_pass xs

  pub filter_all : (xs : List A) → filter (λ x. true) xs ≡ xs
  filter_all [] = refl
  filter_all (x ∷ xs) = ap (λ ys. x ∷ ys) (filter_all xs)

  pub filter_twice : (p r : A → Bool) (xs : List A)
      → filter r (filter p xs) ≡ filter (λ x. r x && p x) xs
  filter_twice p r [] = refl
  filter_twice p r (x ∷ xs) = grind (arith, filter_twice p r xs, and-true, and-false)
