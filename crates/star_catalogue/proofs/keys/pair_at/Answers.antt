use Rattle.std.{proofs.Common.{◌≡◌, ◌∷◌, [], FitsSigned, List, Some, ℕ, refl, rules, slice_get, suc, to_z-of_z, w64, zero}, specs.List.zip}
use Rattle.star_catalogue.proofs.keys.pair_at.Goals as goal

-- what stands in two lists at one position
zipped : {X Y : Type 0} (xs : List X) (ys : List Y) (i : ℕ) (x : X) (y : Y)
    → slice_get xs i ≡ Some x → slice_get ys i ≡ Some y → slice_get (zip xs ys) i ≡ Some (x, y)
zipped [] ys i x y here there = let bad : ⊥ = cc in absurd bad
zipped (w ∷ xs) [] i x y here there = let bad : ⊥ = cc in absurd bad
zipped (w ∷ xs) (v ∷ ys) zero x y here there =
    let first : w ≡ x = cc in let second : v ≡ y = cc in rw (first, second) refl
zipped (w ∷ xs) (v ∷ ys) (suc i) x y here there = zipped xs ys i x y here there

pub returns : goal.returns
returns c =
    let first_fits : FitsSigned w64 c.get.result = search rules in
    let second_fits : FitsSigned w64 c.get-2.result = search rules in
    rw (to_z-of_z first_fits, to_z-of_z second_fits)
    (zipped c.args.firsts.now c.args.seconds.now c.args.index c.get.result c.get-2.result
    c.get.ensures c.get-2.ensures)
