-- Texts that lack a byte.
use Rattle.std.proofs.Common.{◌≡◌, ◌++◌, ℕ, List, [], ◌∷◌, refl}

-- no byte of the text is this one
abbrev pub Lacks : ℕ → List ℕ → Type 0
Lacks b [] = Unit {0}
Lacks b (x ∷ xs) = (x ≡ b → ⊥) × Lacks b xs

pub Lacks-append : (b : ℕ) (xs ys : List ℕ) → Lacks b xs → Lacks b ys → Lacks b (xs ++ ys)
Lacks-append b [] ys h k = k
Lacks-append b (x ∷ xs) ys h k = (h.0, Lacks-append b xs ys h.1 k)

-- what stands before the first such byte, and what after it
pub split_first : (b : ℕ) (xs ys us vs : List ℕ) → Lacks b xs → Lacks b ys
    → xs ++ b ∷ us ≡ ys ++ b ∷ vs → (xs ≡ ys) × (us ≡ vs)
split_first b [] [] us vs h k e = (refl, cc)
split_first b [] (y ∷ ys) us vs h k e = absurd (k.0 cc)
split_first b (x ∷ xs) [] us vs h k e = absurd (h.0 cc)
split_first b (x ∷ xs) (y ∷ ys) us vs h k e =
    let head : x ≡ y = cc in
    let tail : xs ++ b ∷ us ≡ ys ++ b ∷ vs = cc in
    let rest = split_first b xs ys us vs h.1 k.1 tail in
    let same = rest.0 in
    (cc, rest.1)
