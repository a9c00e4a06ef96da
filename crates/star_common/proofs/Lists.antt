-- Facts on lists that the crates above want again and again.
use Rattle.std.{proofs.Common.{◌≡◌, ◌+◌, ℕ, zero, suc, List, [], ◌∷◌, Some, drop, arith, refl}, specs.List.slice_get}

-- the element at a position comes first among those from there on
pub drop_at_index : {X : Type 0} (xs : List X) (i : ℕ) (x : X) → slice_get xs i ≡ Some x
    → drop i xs ≡ x ∷ drop (i + 1) xs
drop_at_index [] i x e = cc
drop_at_index (y ∷ ys) zero x e = let same : y ≡ x = cc in rw same refl
drop_at_index (y ∷ ys) (suc i) x e = let next : suc i + 1 ≡ suc (i + 1) =
    omega arith in rw next (drop_at_index ys i x e)
