-- What the first position that passes a test says of the positions before it.
use Rattle.std.{proofs.Common.{◌≡◌, ◌<◌, ℕ, Bool, false, List, None, get_or, length, ltb, arith}, specs.List.position, proofs.lemmas.Bool.{cases_Bool, ltb-false}, proofs.lemmas.List.Sums.fails_before_first}

-- where no position passes, each fails
pub position-None : (p : ℕ → Bool) (xs : List ℕ) (d : ℕ) → position p xs ≡ None → (k : ℕ)
    → k < length xs → p (get_or xs k d) ≡ false
position-None p xs d none k within = grind (arith, cases_Bool, ltb, ltb-false, fails_before_first)
