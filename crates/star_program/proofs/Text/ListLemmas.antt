-- Lists read word by word.
use Rattle.std.proofs.Common.{◌++◌, ℕ, List, Option, Some, None}

-- what was read before goes to the front
abbrev pub joined : {A : Type 0} → List A → Option (List A) → Option (List A)
joined xs None = None
joined xs (Some ys) = Some (xs ++ ys)

abbrev pub joined_front : {A : Type 0} → List A → Option (List A × List (List ℕ))
    → Option (List A × List (List ℕ))
joined_front xs None = None
joined_front xs (Some (ys, rest)) = Some (xs ++ ys, rest)
