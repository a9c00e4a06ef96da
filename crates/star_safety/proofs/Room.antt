-- Updates that are tallied within their bits are such as a put of the newest asks for.
use Rattle.std.proofs.{Common.{◌≡◌, ℕ, zero, suc, ◌+◌, ◌^◌, ◌<◌, true, List, [], ◌∷◌, length, refl, subst, arith, zero-add}, lemmas.Grind.common_steps, lemmas.Int.ints}
use Rattle.star_safety.proofs.{Common.{AddUp, Aggregate, Count, GroupDecl, HasRoom, Sum, Update, above_zero, and_parts, below_zero, group_declared, length-map, negsuc, numbers_for, pos, slice_index_or, small_room, ℤ}, Tally.{Tally, sum_fits}, Tallied.{IsTallied, sum_up, sum_down, sum_ends, counted_fits, tallies_fit}}

above_is : (vs : List ℤ) → above_zero vs ≡ sum_up vs
unfolding above_zero
above_is [] = refl
above_is (pos n ∷ vs) = let e = above_is vs in omega (arith, e)
above_is (negsuc n ∷ vs) = let e = above_is vs in omega (arith, e)

below_is : (vs : List ℤ) → below_zero vs ≡ sum_down vs
unfolding below_zero
below_is [] = refl
below_is (pos n ∷ vs) = let e = below_is vs in omega (arith, e)
below_is (negsuc n ∷ vs) = let e = below_is vs in omega (arith, e)

-- the tally of a SUM fits, by its position
pub sum_at : (gs : List Aggregate) (a index : ℕ) (t : ℕ → Tally) → tallies_fit gs a t ≡ true
    → index < length gs → slice_index_or gs index Count ≡ Sum → sum_fits (t (a + index)) ≡ true
sum_at [] a index t e h same = absurd (omega (arith, h))
sum_at (g ∷ gs) a zero t e h same =
    let first = (and_parts (counted_fits g (t a)) (tallies_fit gs (suc a) t) e).0 in
    let here : a ≡ a + 0 = omega arith in
    subst (λ n. sum_fits (t n) ≡ true) here (subst (λ q. counted_fits q (t a) ≡ true) same first)
sum_at (g ∷ gs) a (suc index) t e h same =
    let rest = (and_parts (counted_fits g (t a)) (tallies_fit gs (suc a) t) e).1 in
    let there : suc a + index ≡ a + suc index = omega arith in
    subst (λ n. sum_fits (t n) ≡ true) there
    (sum_at gs (suc a) index t rest (omega (arith, h)) same)

adds_up : (t : Tally) (vs : List ℤ) → IsTallied t vs → sum_fits t ≡ true → AddUp vs
adds_up t vs w e = grind (arith, common_steps, ints, sum_ends, above_is, below_is)

pub has_room : (d : GroupDecl) (t : ℕ → Tally) (us : List Update)
    → ((a : ℕ) → IsTallied (t a) (numbers_for a us)) → tallies_fit d.aggregates 0 t ≡ true
    → (t 0).many < 2 ^ 63 → HasRoom (group_declared d) us
has_room d t us w e few = small_room (group_declared d) us
    (λ index h same. adds_up (t index) (numbers_for index us) (w index)
    (subst (λ n. sum_fits (t n) ≡ true) (zero-add index)
    (sum_at d.aggregates 0 index t e h same)))
    (omega (arith, few, (w 0).many, length-map us (λ u. slice_index_or u.values 0 (pos 0))))
