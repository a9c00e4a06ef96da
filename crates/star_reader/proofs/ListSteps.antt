-- One more element of a list.
use Rattle.std.proofs.{Common.{◌≡◌, ◌+◌, ◌++◌, ◌∷◌, ◌∙◌, [], ℕ, List, Some, add-one, slice_get, take, ap}, Math.Seq.take-suc, lemmas.Option.{get_or_from_slice_get, slice_get_within}}

-- one more element
pub take_one_more : {X : Type 0} (xs : List X) (i : ℕ) (x : X) → slice_get xs i ≡ Some x
    → take (i + 1) xs ≡ take i xs ++ x ∷ []
take_one_more xs i x at =
    let within = slice_get_within xs i x at in
    rw add-one (take-suc xs i x within
    ∙ ap (λ y. take i xs ++ y ∷ []) (get_or_from_slice_get xs i x x at))
