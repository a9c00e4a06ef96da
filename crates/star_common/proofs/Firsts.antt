-- The first answer that the elements of a list give.
use Rattle.std.{proofs.Common.{◌≡◌, ◌+◌, ℕ, zero, suc, List, [], ◌∷◌, All, Option, Some, None, drop, arith, refl}, proofs.lemmas.List.Elements.{All-cons, All-head, All-nil, All-tail}, specs.List.{enumerate_from, slice_get}, specs.Option.option_or}
use Rattle.star_common.{specs.First.first_answer, proofs.Lists.drop_at_index}

-- an element without an answer is passed over
pub first_answer_on : {X A : Type 0} (f : X → Option A) (xs : List X) (i : ℕ) (x : X)
    → slice_get xs i ≡ Some x → f x ≡ None
    → first_answer f (drop i xs) ≡ first_answer f (drop (i + 1) xs)
unfolding first_answer
first_answer_on f xs i x at none = rw (drop_at_index xs i x at, none) refl

-- an element with an answer gives the first from there on
pub first_answer_here : {X A : Type 0} (f : X → Option A) (xs : List X) (i : ℕ) (x : X) (a : A)
    → slice_get xs i ≡ Some x → f x ≡ Some a → first_answer f (drop i xs) ≡ Some a
unfolding first_answer
first_answer_here f xs i x a at some = rw (drop_at_index xs i x at, some) refl

-- there is no first answer exactly where no element has one
pub first_answer_none : {X A : Type 0} (f : X → Option A) (xs : List X) → All (λ x. f x ≡ None) xs
    → first_answer f xs ≡ None
unfolding first_answer
first_answer_none f [] h = refl
first_answer_none f (x ∷ xs) h = rw (All-head (λ y. f y ≡ None) x xs h)
    (first_answer_none f xs (All-tail (λ y. f y ≡ None) x xs h))

pub or_none : {A : Type 0} (a b : Option A) → option_or a b ≡ None → (a ≡ None) × (b ≡ None)
or_none None b e = (refl, e)
or_none (Some f) b e = cc

pub all_without_answer : {X A : Type 0} (f : X → Option A) (xs : List X) → first_answer f xs ≡ None
    → All (λ x. f x ≡ None) xs
unfolding first_answer
all_without_answer f [] e = All-nil (λ y. f y ≡ None)
all_without_answer f (x ∷ xs) e =
    let both = or_none (f x) (first_answer f xs) e in
    All-cons (λ y. f y ≡ None) x xs both.0 (all_without_answer f xs both.1)

-- an element of a list with its number
pub enumerated_at : {X : Type 0} (n : ℕ) (xs : List X) (i : ℕ) (x : X) → slice_get xs i ≡ Some x
    → slice_get (enumerate_from n xs) i ≡ Some (n + i, x)
enumerated_at n [] i x e = cc
enumerated_at n (y ∷ ys) zero x e = let same : y ≡ x = cc in let none : n ≡ n + 0 =
    omega arith in λ j. Some (none j, same j)
enumerated_at n (y ∷ ys) (suc i) x e = let next : n + suc i ≡ n + 1 + i =
    omega arith in rw next (enumerated_at (n + 1) ys i x e)
