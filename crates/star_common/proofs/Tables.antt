-- Tables of worked rows: what a function is given, and what it gives.
use Rattle.std.{proofs.Common.{◌≡◌, List, [], ◌∷◌, ap, arith}, specs.Prelude.map, specs.List.AllByRecursion}

-- each row is an input and what comes of it
abbrev pub Gives : {A B : Type 0} → (A → B) → List (A × B) → Type 0
Gives f rows = map (λ row. f row.0) rows ≡ map (λ row. row.1) rows

-- each row is two inputs and what comes of them
abbrev pub Gives2 : {A B C : Type 0} → (A → B → C) → List (A × B × C) → Type 0
Gives2 f rows = map (λ row. f row.0 row.1) rows ≡ map (λ row. row.2) rows

-- each row is three inputs and what comes of them
abbrev pub Gives3 : {A B C D : Type 0} → (A → B → C → D) → List (A × B × C × D) → Type 0
Gives3 f rows = map (λ row. f row.0 row.1 row.2) rows ≡ map (λ row. row.3) rows

head_or : {A : Type 0} → A → List A → A
head_or x [] = x
head_or x (y ∷ ys) = y

tail : {A : Type 0} → List A → List A
tail [] = []
tail (y ∷ ys) = ys

-- what holds of each input and what comes of it holds of each row
pub each_row : {A B : Type 0} (P : A → B → Type 0) (f : A → B) → ((x : A) → P x (f x))
    → (rows : List (A × B)) → Gives f rows → AllByRecursion (λ row. P row.0 row.1) rows
unfolding head_or tail
each_row P f is [] e = tt
each_row P f is ((x, y) ∷ rows) e = grind (arith, head_or, tail, each_row P f is rows (ap tail e))
