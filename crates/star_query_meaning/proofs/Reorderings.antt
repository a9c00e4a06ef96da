-- What stays where the elements of a list change positions.
use Rattle.std.{proofs.Common.{◌≡◌, ℕ, zero, suc, ◌<◌, Bool, true, false, List, [], ◌∷◌, ◌++◌, length, get_or, refl, sym, subst, arith, cond}, specs.Prelude.filter, specs.List.{flat_map, swap}, specs.List.Sorted.IsPermutation, proofs.Math.ListN.set, proofs.lemmas.List.append_assoc, proofs.lemmas.List.Edits.swap_is, proofs.lemmas.List.Sorted.{IsPermutation-refl, IsPermutation-trans, IsPermutation-cons, IsPermutation-middle, IsPermutation-append, IsPermutation-append_comm, IsPermutation-append_left, IsPermutation-append_right, IsPermutation-keeps}}

-- ---- a relation that holds of equal lists, and where two neighbours change positions

module _ {X : Type 0} (R : List X → List X → Type 0) (same : (xs : List X) → R xs xs)
    (again : (xs ys zs : List X) → R xs ys → R ys zs → R xs zs)
    (under : (x : X) (xs ys : List X) → R xs ys → R (x ∷ xs) (x ∷ ys))
    (turned : (x y : X) (xs : List X) → R (x ∷ y ∷ xs) (y ∷ x ∷ xs)) where
  to_index : (x : X) (xs : List X) (k : ℕ) (d : X) → k < length xs
      → R (x ∷ xs) (get_or xs k d ∷ set xs k x)
  to_index x [] k d h = absurd (omega arith)
  to_index x (y ∷ ys) zero d h = turned x y ys
  to_index x (y ∷ ys) (suc k) d h =
      again (x ∷ y ∷ ys) (y ∷ x ∷ ys) (get_or ys k d ∷ y ∷ set ys k x) (turned x y ys)
      (again (y ∷ x ∷ ys) (y ∷ get_or ys k d ∷ set ys k x) (get_or ys k d ∷ y ∷ set ys k x)
      (under y (x ∷ ys) (get_or ys k d ∷ set ys k x) (to_index x ys k d (omega arith)))
      (turned y (get_or ys k d) (set ys k x)))

  exchanged : (xs : List X) (i j : ℕ) (d : X) → i < length xs → j < length xs
      → R xs (set (set xs i (get_or xs j d)) j (get_or xs i d))
  exchanged [] i j d h k = absurd (omega arith)
  exchanged (x ∷ xs) zero zero d h k = same (x ∷ xs)
  exchanged (x ∷ xs) zero (suc j) d h k = to_index x xs j d (omega arith)
  exchanged (x ∷ xs) (suc i) zero d h k = to_index x xs i d (omega arith)
  exchanged (x ∷ xs) (suc i) (suc j) d h k =
      under x xs (set (set xs i (get_or xs j d)) j (get_or xs i d))
      (exchanged xs i j d (omega arith) (omega arith))

  step : (l : List X) (i j : ℕ) → i < length l → j < length l → R l (swap l i j)
  step [] i j p q = absurd (omega arith)
  step (x ∷ l) i j p q = subst (R (x ∷ l)) (swap_is (x ∷ l) i j x p q) (exchanged (x ∷ l) i j x p q)

  -- holds of any two lists with the same elements
  pub reordered : (xs ys : List X) → IsPermutation xs ys → R xs ys
  reordered xs ys = IsPermutation-keeps xs (R xs) (same xs)
      (λ l i j p q h. again xs l (swap l i j) h (step l i j p q)) ys

-- ---- what passes a test

module _ {X : Type 0} (p : X → Bool) where
  filtered_under : (x : X) (xs ys : List X) → IsPermutation (filter p xs) (filter p ys)
      → IsPermutation (filter p (x ∷ xs)) (filter p (x ∷ ys))
  filtered_under x xs ys h = by (p x)
    where
      by : (b : Bool) → IsPermutation (cond b (x ∷ filter p xs) (filter p xs))
          (cond b (x ∷ filter p ys) (filter p ys))
      by true = IsPermutation-cons x (filter p xs) (filter p ys) h
      by false = h

  filtered_turned : (x y : X) (xs : List X)
      → IsPermutation (filter p (x ∷ y ∷ xs)) (filter p (y ∷ x ∷ xs))
  filtered_turned x y xs = by (p x) (p y)
    where
      by : (a b : Bool) → IsPermutation
          (cond a (x ∷ cond b (y ∷ filter p xs) (filter p xs))
          (cond b (y ∷ filter p xs) (filter p xs)))
          (cond b (y ∷ cond a (x ∷ filter p xs) (filter p xs))
          (cond a (x ∷ filter p xs) (filter p xs)))
      by true true = IsPermutation-middle (x ∷ []) y (filter p xs)
      by true false = IsPermutation-refl (x ∷ filter p xs)
      by false true = IsPermutation-refl (y ∷ filter p xs)
      by false false = IsPermutation-refl (filter p xs)

  pub filter_reordered : (xs ys : List X) → IsPermutation xs ys
      → IsPermutation (filter p xs) (filter p ys)
  filter_reordered = reordered (λ xs ys. IsPermutation (filter p xs) (filter p ys))
      (λ xs. IsPermutation-refl (filter p xs))
      (λ xs ys zs a b. IsPermutation-trans (filter p xs) (filter p ys) (filter p zs) a b)
      filtered_under filtered_turned

-- ---- what each element gives

pub each_reordered : {X Y : Type 0} (f g : X → List Y) (xs : List X)
    → ((x : X) → IsPermutation (f x) (g x)) → IsPermutation (flat_map f xs) (flat_map g xs)
each_reordered f g [] h = IsPermutation-refl []
each_reordered f g (x ∷ xs) h =
    IsPermutation-append (f x) (g x) (flat_map f xs) (flat_map g xs) (h x) (each_reordered f g xs h)

-- what two functions give, one after the other or element by element
two_given : {X Y : Type 0} (f g : X → List Y) (xs : List X)
    → IsPermutation (flat_map f xs ++ flat_map g xs) (flat_map (λ x. f x ++ g x) xs)
two_given f g [] = IsPermutation-refl []
two_given f g (x ∷ xs) =
    let a = f x in
    let b = g x in
    let us = flat_map f xs in
    let vs = flat_map g xs in
    let crossed : IsPermutation (us ++ (b ++ vs)) (b ++ (us ++ vs)) =
    rw (← append_assoc us b vs, ← append_assoc b us vs)
    (IsPermutation-append_left vs (us ++ b) (b ++ us) (IsPermutation-append_comm us b)) in
    let whole : IsPermutation (a ++ (us ++ (b ++ vs))) (a ++ (b ++ flat_map (λ x. f x ++ g x) xs)) =
    IsPermutation-append_right a (us ++ (b ++ vs)) (b ++ flat_map (λ x. f x ++ g x) xs)
    (IsPermutation-trans (us ++ (b ++ vs)) (b ++ (us ++ vs)) (b ++ flat_map (λ x. f x ++ g x) xs)
    crossed (IsPermutation-append_right b (us ++ vs) (flat_map (λ x. f x ++ g x) xs)
    (two_given f g xs))) in
    rw (append_assoc a us (b ++ vs), append_assoc a b (flat_map (λ x. f x ++ g x) xs)) whole

nothing_given : {X Y : Type 0} (ys : List X) → flat_map {A = Y} (λ (y : X). []) ys ≡ []
nothing_given [] = refl
nothing_given (y ∷ ys) = nothing_given ys

-- over two lists, by the one first or by the other
pub crossed : {X Y Z : Type 0} (f : X → Y → List Z) (xs : List X) (ys : List Y)
    → IsPermutation (flat_map (λ x. flat_map (λ y. f x y) ys) xs)
    (flat_map (λ y. flat_map (λ x. f x y) xs) ys)
crossed {X} {Y} {Z} f [] ys =
    subst (IsPermutation []) (sym (nothing_given ys)) (IsPermutation-refl [])
crossed {X} {Y} {Z} f (x ∷ xs) ys =
    let rest = flat_map (λ x. flat_map (λ y. f x y) ys) xs in
    let others = flat_map (λ y. flat_map (λ x. f x y) xs) ys in
    IsPermutation-trans (flat_map (f x) ys ++ rest) (flat_map (f x) ys ++ others)
    (flat_map (λ y. f x y ++ flat_map (λ x. f x y) xs) ys)
    (IsPermutation-append_right (flat_map (f x) ys) rest others (crossed f xs ys))
    (two_given (f x) (λ y. flat_map (λ x. f x y) xs) ys)
