-- The elements of a list, one after another.
use Rattle.std.{proofs.Common.{◌≡◌, ◌⊎◌, suc, ◌<◌, List, [], ◌∷◌, map, refl, arith, subst, ⊎_elim}, proofs.lemmas.List.Elements.{All-contains, All-from_recursion, All-head, All-tail}, specs.List.{AllByRecursion, All, Contains}}

module _ {X : Type 0} where
  pub contains_here : (x : X) (xs : List X) → Contains (x ∷ xs) x
  contains_here x xs = (0, omega arith, refl)

  pub contains_later : (x : X) (xs : List X) (y : X) → Contains xs y → Contains (x ∷ xs) y
  contains_later x xs y h = (suc h.0, omega (arith, h.1), h.2)

  pub contains_cases : (x : X) (xs : List X) (y : X) → Contains (x ∷ xs) y → (x ≡ y) ⊎ Contains xs y
  contains_cases x xs y h = grind arith

  pub contains_none : (y : X) → Contains {X = X} [] y → ⊥
  contains_none y h = absurd (omega (arith, h.1))

  pub of_each : (P : X → Type 0) (xs : List X) → ((y : X) → Contains xs y → P y)
      → AllByRecursion P xs
  of_each P [] each = tt
  of_each P (x ∷ xs) each =
      (each x (contains_here x xs), of_each P xs (λ y h. each y (contains_later x xs y h)))

  pub at_each : (P : X → Type 0) (xs : List X) (y : X) → AllByRecursion P xs → Contains xs y → P y
  at_each P xs y all h = All-contains P xs y (All-from_recursion P xs all) h

module _ {X Y : Type 0} where
  pub from_contains_map : (f : X → Y) (xs : List X) (y : Y) → Contains (map f xs) y
      → (x : X) × Contains xs x × (f x ≡ y)
  from_contains_map f [] y h = absurd (contains_none y h)
  from_contains_map f (z ∷ xs) y h =
      ⊎_elim {C = (x : X) × Contains (z ∷ xs) x × (f x ≡ y)} (λ e. (z, contains_here z xs, e))
      (λ later. let w = from_contains_map f xs y later in (w.0, contains_later z xs w.0 w.1, w.2))
      (contains_cases (f z) (map f xs) y h)

  pub contains_mapped : (f : X → Y) (xs : List X) (x : X) → Contains xs x
      → Contains (map f xs) (f x)
  contains_mapped f [] x h = absurd (contains_none x h)
  contains_mapped f (z ∷ xs) x h = ⊎_elim {C = Contains (map f (z ∷ xs)) (f x)}
      (λ e. subst (λ y. Contains (map f (z ∷ xs)) (f y)) e (contains_here (f z) (map f xs)))
      (λ later. contains_later (f z) (map f xs) (f x) (contains_mapped f xs x later))
      (contains_cases z xs x h)

  -- functions that agree on each element give the same list
  pub map_agree : (f g : X → Y) (xs : List X) → All (λ x. f x ≡ g x) xs → map f xs ≡ map g xs
  map_agree f g [] all = refl
  map_agree f g (x ∷ xs) all = λ i. All-head (λ y. f y ≡ g y) x xs all i
      ∷ map_agree f g xs (All-tail (λ y. f y ≡ g y) x xs all) i
