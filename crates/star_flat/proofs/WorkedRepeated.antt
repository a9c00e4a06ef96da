-- Texts that are told by their positions, and positions that don't tell them.
use Rattle.std.{proofs.Common.{◌≡◌, ◌<◌, ◌≤◌, [], ◌∷◌, pos, refl, arith}, proofs.lemmas.List.Elements.{All-cons, All-head, All-nil, All-tail}, specs.Prelude.codes}
use Rattle.star_flat.specs.Repeated.{AreRepeated, indexes_in, texts_at_indexes}

two_of_three : texts_at_indexes (codes "a" ∷ codes "b" ∷ codes "c" ∷ [])
    (indexes_in (pos 2 ∷ pos 0 ∷ [])) ≡ codes "c" ∷ codes "a" ∷ []
two_of_three = refl

-- one text in one row
once : AreRepeated (codes "a" ∷ []) (0 ∷ [])
once = record {
  within = All-cons (λ index. index < 1) 0 [] (omega arith) (All-nil (λ index. index < 1));
  met = λ index below. (0, omega arith, omega (arith, below));
  few = omega arith;
}

-- there is no second text to be told
not_past_the_last : AreRepeated (codes "a" ∷ []) (0 ∷ 1 ∷ []) → ⊥
not_past_the_last told =
    let below : 1 < 1 =
    All-head (λ index. index < 1) 1 [] (All-tail (λ index. index < 1) 0 (1 ∷ []) told.within) in
    omega (arith, below)

-- a text that no row has
not_unmet : AreRepeated (codes "a" ∷ codes "b" ∷ []) (0 ∷ []) → ⊥
not_unmet told = let few : 2 ≤ 1 = told.few in omega (arith, few)
