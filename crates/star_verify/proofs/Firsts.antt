-- A list by its first element and the others, as a pattern tells them.
use Rattle.std.proofs.{Common.{◌≡◌, ◌≤◌, ◌-◌, List, [], ◌∷◌, length, take, drop, get_or, ap, arith}, lemmas.List.take_rest}

pub first_and_others : {X : Type 0} (xs : List X) (d : X) → 1 ≤ length xs
    → get_or xs 0 d ∷ take (length xs - 1) (drop 1 xs) ≡ xs
first_and_others [] d h = absurd (omega (arith, h))
first_and_others (x ∷ xs) d h = ap (λ ys. x ∷ ys) (take_rest (x ∷ xs) 1)
