-- The first position of a key is each position that it has, where no two are one.
use Rattle.std.{proofs.Common.{◌≡◌, ◌≢◌, ◌<◌, ◌+◌, ◌↔◌, ℕ, zero, suc, ℤ, Bool, true, false, true≢false, cond, List, [], ◌∷◌, Some, None, Option, length, arith, ap, sym, subst, ◌∙◌, refl, slice_get, ⊎_elim}, proofs.lemmas.Bool.cases_lt, proofs.lemmas.Bool.Decides.Decides-int_eq, proofs.lemmas.Cmp.int_eq_equiv, proofs.lemmas.Option.{get_or_from_slice_get, same_Some, slice_get_within}, specs.Prelude.{◌&&◌, AllPairs, IfSome}, specs.List.position_from, specs.Ordering.int_eq}
use Rattle.star_world.specs.WorldOf.{is_key}

itself : (n : ℤ) → is_key n (n ∷ []) ≡ true
itself n = ap (λ b. b && true) (int_eq_equiv.refl n)

only_key : (n : ℤ) (key : List ℤ) → is_key n key ≡ true → key ≡ n ∷ []
only_key n [] e = absurd (true≢false (sym e))
only_key n (x ∷ []) e = go (int_eq x n) refl
  where
    go : (b : Bool) → int_eq x n ≡ b → x ∷ [] ≡ n ∷ []
    go true same = ap (λ y. y ∷ []) ((Decides-int_eq x n).0 same)
    go false differs = absurd (true≢false (sym e ∙ rw differs refl))
only_key n (x ∷ y ∷ rest) e = go (int_eq x n) refl
  where
    go : (b : Bool) → int_eq x n ≡ b → x ∷ y ∷ rest ≡ n ∷ []
    go true same = absurd (true≢false (sym e ∙ rw same refl))
    go false differs = absurd (true≢false (sym e ∙ rw differs refl))

-- the answer is None where no key is the number, else a position of it, counted from i
abbrev pub IsFound : ℤ → List (List ℤ) → ℕ → Option ℕ → Type 0
IsFound n keys i None = (row : ℕ) → slice_get keys row ≢ Some (n ∷ [])
IsFound n keys i (Some j) = (row : ℕ) × (j ≡ i + row) × (slice_get keys row ≡ Some (n ∷ []))

later : (n : ℤ) (key : List ℤ) (keys : List (List ℤ)) (i : ℕ) (o : Option ℕ) → is_key n key ≡ false
    → IsFound n keys (i + 1) o → IsFound n (key ∷ keys) i o
later n key keys i (Some j) differs (row, at, is) = (suc row, omega (arith, at), is)
later n key keys i None differs none = none_of
  where
    none_of : (row : ℕ) → slice_get (key ∷ keys) row ≢ Some (n ∷ [])
    none_of zero e = absurd (true≢false
        (sym (itself n) ∙ ap (is_key n) (sym (same_Some key (n ∷ []) e)) ∙ differs))
    none_of (suc row) e = none row e

pub found_from : (n : ℤ) (keys : List (List ℤ)) (i : ℕ)
    → IsFound n keys i (position_from (is_key n) i keys)
found_from n [] i = λ row e. absurd (none_some row e)
  where
    none_some : (row : ℕ) → slice_get [] row ≡ Some (n ∷ []) → ⊥
    none_some row e = let within : row < 0 = slice_get_within [] row (n ∷ []) e in
        omega (arith, within)
found_from n (key ∷ keys) i =
    go (is_key n key) refl (position_from (is_key n) (i + 1) keys) (found_from n keys (i + 1))
  where
    go : (b : Bool) → is_key n key ≡ b → (o : Option ℕ) → IsFound n keys (i + 1) o
        → IsFound n (key ∷ keys) i (cond (is_key n key) (Some i) o)
    go true e o found = subst (λ b. IsFound n (key ∷ keys) i (cond b (Some i) o)) (sym e)
        (0, omega arith, ap Some (only_key n key e))
    go false e o found = subst (λ b. IsFound n (key ∷ keys) i (cond b (Some i) o)) (sym e)
        (later n key keys i o e found)

-- no key stands in two rows where no two are the same
pub one_index : (keys : List (List ℤ)) (i j : ℕ) (k : List ℤ) → AllPairs (λ a b. a ≢ b) keys
    → slice_get keys i ≡ Some k → slice_get keys j ≡ Some k → i ≡ j
one_index keys i j k apart at_i at_j =
    let first = get_or_from_slice_get keys i k k at_i in
    let second = get_or_from_slice_get keys j k k at_j in
    ⊎_elim {C = i ≡ j}
    (λ before. absurd (apart i j k before (slice_get_within keys j k at_j) (first ∙ sym second)))
    (λ from. ⊎_elim {C = i ≡ j}
    (λ after. absurd (apart j i k after (slice_get_within keys i k at_i) (second ∙ sym first)))
    (λ upto. omega (arith, from, upto)) (cases_lt j i)) (cases_lt i j)

-- an answer that is each position of a key is the first position
pub is_position : (n : ℤ) (keys : List (List ℤ)) (o : Option ℕ)
    → ((row : ℕ) → (o ≡ Some row) ↔ (slice_get keys row ≡ Some (n ∷ [])))
    → o ≡ position_from (is_key n) 0 keys
is_position n keys o is = go (position_from (is_key n) 0 keys) (found_from n keys 0) o refl
  where
    go : (p : Option ℕ) → IsFound n keys 0 p → (q : Option ℕ) → o ≡ q → o ≡ p
    go (Some j) (row, at, found) q e =
        (let same : row ≡ j = omega (arith, at) in (is row).1 found ∙ ap Some same)
    go None none (Some row) e = absurd (none row ((is row).0 e))
    go None none None e = e

pub found_within : (n : ℤ) (keys : List (List ℤ)) (most : ℕ) (o : Option ℕ) → length keys ≡ most
    → ((row : ℕ) → (o ≡ Some row) ↔ (slice_get keys row ≡ Some (n ∷ [])))
    → IfSome o (λ row. row < most)
found_within n keys most None len is = tt
found_within n keys most (Some row) len is =
    omega (arith, len, slice_get_within keys row (n ∷ []) ((is row).0 refl))
