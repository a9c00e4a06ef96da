-- Aggregates over rows that pass one of two tests.
use Rattle.std.proofs.{Common.{◌≡◌, ◌∙◌, ℕ, ◌+◌, Bool, true, false, ◌&&◌, ◌||◌, List, [], ◌∷◌, ◌++◌, Option, Some, None, map, cond, refl, sym, ap, arith, true≢false}, lemmas.Grind.common_steps}
use Rattle.star_merge_laws.proofs.Common.{Aggregate, Count, Entry, aggregate, both, clamps, filter, ints, joined, joined_with, merged, merged_totals, pos, slice_index_or, totals_from, totals_of, ℤ}

both_comm : (g : Aggregate) (x y : ℤ) → both g x y ≡ both g y x
both_comm it x y = grind (arith, ints, clamps)

both_assoc : (g : Aggregate) (x y z : ℤ) → both g (both g x y) z ≡ both g x (both g y z)
both_assoc it x y z = grind (arith, common_steps, ints, clamps)

pub merged_assoc : (g : Aggregate) (r s t : Option ℤ)
    → merged g (merged g r s) t ≡ merged g r (merged g s t)
merged_assoc g it s t = grind (arith, ints, both_assoc)

pub merged_comm : (g : Aggregate) (r s : Option ℤ) → merged g r s ≡ merged g s r
merged_comm g None None = refl
merged_comm g None (Some y) = refl
merged_comm g (Some x) None = refl
merged_comm g (Some x) (Some y) = ap Some (both_comm g x y)

-- an aggregate over one row
abbrev over_one : Aggregate → ℤ → Option ℤ
over_one Count z = Some (pos 1)
over_one g z = Some z

one_more : (g : Aggregate) (f : ℤ → ℤ → ℤ) (z : ℤ) (o : Option ℤ)
    → ((x y : ℤ) → both g x y ≡ f x y) → joined_with f z o ≡ merged g (Some z) o
one_more g f z None is = refl
one_more g f z (Some y) is = ap Some (sym (is z y))

-- an aggregate over one row more
over_more : (g : Aggregate) (z : ℤ) (zs : List ℤ)
    → aggregate g (z ∷ zs) ≡ merged g (over_one g z) (aggregate g zs)
over_more it z zs = grind (arith, ints, one_more, joined)

-- an aggregate over no rows adds nothing to one
over_none : (g : Aggregate) (zs : List ℤ)
    → aggregate g zs ≡ merged g (aggregate g []) (aggregate g zs)
over_none it zs = grind (arith, ints)

module _ {X : Type 0} (g : Aggregate) (number : X → ℤ) where
  abbrev over : List X → Option ℤ
  over xs = aggregate g (map number xs)

  left : (z : Option ℤ) (a b r : Option ℤ) → r ≡ merged g a b
      → merged g z r ≡ merged g (merged g z a) b
  left z a b r e = ap (merged g z) e ∙ sym (merged_assoc g z a b)

  right : (z : Option ℤ) (a b r : Option ℤ) → r ≡ merged g a b
      → merged g z r ≡ merged g a (merged g z b)
  right z a b r e =
      ap (merged g z) e ∙ sym (merged_assoc g z a b) ∙ ap (λ t. merged g t b) (merged_comm g z a)
      ∙ merged_assoc g a z b

  -- those that pass one of two tests, where none passes both, and then some more
  pub over_either : (p q either : X → Bool) (more : List X)
      → ((x : X) → either x ≡ (p x || q x)) → ((x : X) → (p x && q x) ≡ false) → (xs : List X)
      → over (filter either xs ++ more) ≡ merged g (over (filter p xs)) (over (filter q xs ++ more))
  over_either p q either more is not_both [] = over_none g (map number more)
  over_either p q either more is not_both (x ∷ xs) =
      ap (λ b. over (cond b (x ∷ filter either xs) (filter either xs) ++ more)) (is x)
      ∙ by (p x) (q x) (not_both x) (over_either p q either more is not_both xs)
    where
      by : (b c : Bool) → (b && c) ≡ false
          → over (filter either xs ++ more)
          ≡ merged g (over (filter p xs)) (over (filter q xs ++ more))
          → over (cond (b || c) (x ∷ filter either xs) (filter either xs) ++ more)
          ≡ merged g (over (cond b (x ∷ filter p xs) (filter p xs)))
          (over (cond c (x ∷ filter q xs) (filter q xs) ++ more))
      by true true never e = absurd (true≢false never)
      by true false never e =
          over_more g (number x) (map number (filter either xs ++ more))
          ∙ left (over_one g (number x)) (over (filter p xs)) (over (filter q xs ++ more))
          (over (filter either xs ++ more)) e
          ∙ ap (λ t. merged g t (over (filter q xs ++ more)))
          (sym (over_more g (number x) (map number (filter p xs))))
      by false true never e =
          over_more g (number x) (map number (filter either xs ++ more))
          ∙ right (over_one g (number x)) (over (filter p xs)) (over (filter q xs ++ more))
          (over (filter either xs ++ more)) e
          ∙ ap (merged g (over (filter p xs)))
          (sym (over_more g (number x) (map number (filter q xs ++ more))))
      by false false never e = e

module _ {K : Type 0} (p q either : Entry K → Bool) (more xs : List (Entry K))
    (is : (x : Entry K) → either x ≡ (p x || q x))
    (not_both : (x : Entry K) → (p x && q x) ≡ false) where
  totals_from_either : (gs : List Aggregate) (index : ℕ)
      → totals_from gs index (filter either xs ++ more)
      ≡ merged_totals gs (totals_from gs index (filter p xs))
      (totals_from gs index (filter q xs ++ more))
  totals_from_either [] index = refl
  totals_from_either (g ∷ gs) index =
      λ i. over_either g (λ row. slice_index_or row.values index (pos 0)) p q either more is
      not_both xs i ∷ totals_from_either gs (index + 1) i

  -- the aggregates of rows that pass one of two tests
  pub totals_either : (gs : List Aggregate)
      → totals_of gs (filter either xs ++ more)
      ≡ merged_totals gs (totals_of gs (filter p xs)) (totals_of gs (filter q xs ++ more))
  totals_either gs = totals_from_either gs 0
