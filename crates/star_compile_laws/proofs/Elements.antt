-- The elements of lists.
use Rattle.std.{proofs.Common.{◌≡◌, ℕ, zero, suc, ◌+◌, ◌<◌, Bool, true, false, List, [], ◌∷◌, map, refl, subst, arith, ⊎_elim, cond}, specs.Prelude.filter, specs.List.Contains}
use Rattle.star_common.proofs.Members.{contains_here, contains_later, contains_cases, contains_none}
use Rattle.star_compile_laws.proofs.TurnRows.{numbers}

-- functions that agree on each element give the same list
pub map_same : {A B : Type 0} (f g : A → B) (xs : List A) → ((x : A) → Contains xs x → f x ≡ g x)
    → map f xs ≡ map g xs
map_same f g [] h = refl
map_same f g (x ∷ xs) h =
    λ i. h x (contains_here x xs) i ∷ map_same f g xs (λ y q. h y (contains_later x xs y q)) i

-- what passes a test is an element
pub contains_filtered : {A : Type 0} (p : A → Bool) (xs : List A) (x : A) → Contains (filter p xs) x
    → Contains xs x
contains_filtered p [] x h = h
contains_filtered p (y ∷ xs) x h = by (p y) h (λ q. contains_filtered p xs x q)
  where
    by : (b : Bool) → Contains (cond b (y ∷ filter p xs) (filter p xs)) x
        → (Contains (filter p xs) x → Contains xs x) → Contains (y ∷ xs) x
    by true q g =
        ⊎_elim {C = Contains (y ∷ xs) x} (λ e. subst (Contains (y ∷ xs)) e (contains_here y xs))
        (λ later. contains_later y xs x (g later)) (contains_cases y (filter p xs) x q)
    by false q g = contains_later y xs x (g q)

pub contains_numbers : (k i n : ℕ) → Contains (numbers k i) n → n < i + k
contains_numbers zero i n h = absurd (contains_none n h)
contains_numbers (suc k) i n h = ⊎_elim {C = n < i + suc k} (λ e. omega arith)
    (λ later. omega (arith, contains_numbers k (i + 1) n later))
    (contains_cases i (numbers k (i + 1)) n h)
