-- A list that is copied element by element.
use Rattle.std.{proofs.Common.{◌≡◌, ◌+◌, ◌∷◌, ◌++◌, ℕ, List, [], Some, ap, sym, take, ◌∙◌}, proofs.lemmas.List.take_more, proofs.lemmas.Option.{get_or_from_slice_get, slice_get_within}, specs.List.slice_get}

-- one more element
pub copied_more : {X : Type 0} (xs copied more : List X) (i : ℕ) (x : X) → copied ≡ take i xs
    → more ≡ copied ++ x ∷ [] → slice_get xs i ≡ Some x → more ≡ take (i + 1) xs
copied_more xs copied more i x so_far pushed at =
    pushed ∙ ap (λ ys. ys ++ x ∷ []) so_far
    ∙ ap (λ y. take i xs ++ y ∷ []) (sym (get_or_from_slice_get xs i x x at))
    ∙ sym (take_more xs i x (slice_get_within xs i x at))
