-- The least and the greatest of some numbers.
use Rattle.std.{proofs.Common.{◌≡◌, ◌⊎◌, ℤ, pos, ◌≤ℤ◌, List, [], ◌∷◌, refl, arith, ⊎_elim}, specs.List.{All, Contains, fold}, specs.Int.{int_min, int_max}, proofs.lemmas.Int.{ints, fold-int_min_bounds, fold-int_max_bounds, fold-int_min_reached, fold-int_max_reached}, proofs.lemmas.List.Elements.{All-cons, All-nil, All-contains}}
use Rattle.star_common.proofs.Members.{contains_here, contains_later}
use Rattle.star_schema.specs.Bounds.{least, greatest}

-- each number is no less than the least, and no greater than the greatest
pub least_below : (zs : List ℤ) → All (λ z. least zs ≤ℤ z) zs
unfolding least
least_below [] = All-nil (λ z. pos 0 ≤ℤ z)
least_below (z ∷ zs) =
    let r = fold int_min z zs in
    let bounds = fold-int_min_bounds z zs r refl in
    All-cons (λ x. r ≤ℤ x) z zs bounds.0 bounds.1

pub greatest_above : (zs : List ℤ) → All (λ z. z ≤ℤ greatest zs) zs
unfolding greatest
greatest_above [] = All-nil (λ z. z ≤ℤ pos 0)
greatest_above (z ∷ zs) =
    let r = fold int_max z zs in
    let bounds = fold-int_max_bounds z zs r refl in
    All-cons (λ x. x ≤ℤ r) z zs bounds.0 bounds.1

-- each is one of the numbers
reached : (x : ℤ) (xs : List ℤ) (r : ℤ) → (r ≡ x) ⊎ Contains xs r → Contains (x ∷ xs) r
reached x xs r = ⊎_elim {C = Contains (x ∷ xs) r} (λ e. rw e (contains_here x xs))
    (contains_later x xs r)

pub least_there : (x : ℤ) (xs : List ℤ) → Contains (x ∷ xs) (least (x ∷ xs))
unfolding least
least_there x xs = reached x xs _ (fold-int_min_reached x xs _ refl)

pub greatest_there : (x : ℤ) (xs : List ℤ) → Contains (x ∷ xs) (greatest (x ∷ xs))
unfolding greatest
greatest_there x xs = reached x xs _ (fold-int_max_reached x xs _ refl)

-- a number that is no greater than any, and is one of them
pub least_is : (zs : List ℤ) (z : ℤ) → All (λ n. z ≤ℤ n) zs → Contains zs z → z ≡ least zs
least_is [] z below one = absurd (omega (arith, one.1))
least_is (x ∷ xs) z below one =
    let upto = All-contains (λ n. z ≤ℤ n) (x ∷ xs) _ below (least_there x xs) in
    let down = All-contains (λ n. least (x ∷ xs) ≤ℤ n) (x ∷ xs) z (least_below (x ∷ xs)) one in
    omega (arith, ints)

-- a number that is no less than any, and is one of them
pub greatest_is : (zs : List ℤ) (z : ℤ) → All (λ n. n ≤ℤ z) zs → Contains zs z → z ≡ greatest zs
greatest_is [] z above one = absurd (omega (arith, one.1))
greatest_is (x ∷ xs) z above one =
    let upto = All-contains (λ n. n ≤ℤ greatest (x ∷ xs)) (x ∷ xs) z (greatest_above (x ∷ xs))
    one in
    let down = All-contains (λ n. n ≤ℤ z) (x ∷ xs) _ above (greatest_there x xs) in
    omega (arith, ints)
