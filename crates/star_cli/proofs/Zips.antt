-- Lists that are related item by item.
use Rattle.std.{proofs.Common.{◌≡◌, ◌+◌, ◌<◌, ◌≤◌, ◌++◌, ◌∷◌, ℕ, List, [], length, get_or, take, subst}, specs.List.AllZip, specs.Borrow.Bor, proofs.lemmas.List.Elements.Contains-get_or, proofs.lemmas.List.{take_more, take_all}}
use Rattle.star_cli.specs.{Commands.IsOneRefused, Commands.IsPathRefused, Stores.Known, declared.failure.Failure.Failure}

pub none_zip : {A B : Type 0} (R : A → B → Type 0) (xs : List A) (ys : List B) → ys ≡ []
    → AllZip R (take 0 xs) ys
none_zip R xs ys none = rw none tt

zip_push : {A B : Type 0} (R : A → B → Type 0) (xs : List A) (ys : List B) (x : A) (y : B)
    → AllZip R xs ys → R x y → AllZip R (xs ++ x ∷ []) (ys ++ y ∷ [])
zip_push R [] [] x y all is = (is, tt)
zip_push R [] (b ∷ ys) x y all is = absurd all
zip_push R (a ∷ xs) [] x y all is = absurd all
zip_push R (a ∷ xs) (b ∷ ys) x y all is = (all.0, zip_push R xs ys x y all.1 is)

-- one more of each
pub zip_more : {A B : Type 0} (R : A → B → Type 0) (xs : List A) (ys more : List B) (i : ℕ) (d : A)
    (y : B) → i < length xs → AllZip R (take i xs) ys → R (get_or xs i d) y
    → more ≡ ys ++ y ∷ [] → AllZip R (take (i + 1) xs) more
zip_more R xs ys more i d y within all is pushed =
    rw (pushed, take_more xs i d within) (zip_push R (take i xs) ys (get_or xs i d) y all is)

pub zip_done : {A B : Type 0} (R : A → B → Type 0) (xs : List A) (ys : List B) (i : ℕ)
    → length xs ≤ i → AllZip R (take i xs) ys → AllZip R xs ys
zip_done R xs ys i past all = subst (λ l. AllZip R l ys) (take_all i xs past) all

pub zip_on : {A B C : Type 0} (R : A → B → Type 0) (S : B → C → Type 0) (T : A → C → Type 0)
    → ((a : A) (b : B) (c : C) → R a b → S b c → T a c) → (xs : List A) (ys : List B) (zs : List C)
    → AllZip R xs ys → AllZip S ys zs → AllZip T xs zs
zip_on R S T on [] [] [] first second = tt
zip_on R S T on [] [] (z ∷ zs) first second = absurd second
zip_on R S T on [] (y ∷ ys) zs first second = absurd first
zip_on R S T on (x ∷ xs) [] zs first second = absurd first
zip_on R S T on (x ∷ xs) (y ∷ ys) [] first second = absurd second
zip_on R S T on (x ∷ xs) (y ∷ ys) (z ∷ zs) first second =
    (on x y z first.0 second.0, zip_on R S T on xs ys zs first.1 second.1)

-- ---- a file of which no report can be made

pub one_refused : (known : Known) (paths : List (Bor (List ℕ))) (i : ℕ) (d : Bor (List ℕ))
    (failure : Failure) → i < length paths → IsPathRefused known (get_or paths i d) failure
    → IsOneRefused known paths failure
one_refused known paths i d failure within refused =
    (get_or paths i d, Contains-get_or paths i d within, refused)
