-- The numbers of puts, vector by vector, and the cells of one aggregate after another.
use Rattle.star_group.proofs.Common.{◌≡◌, ℕ, zero, suc, ◌+◌, ◌<◌, ◌≤◌, ℤ, pos, List, [], ◌∷◌, length, drop, drop-cons, get_or, set, refl, ap, ◌∙◌, arith, below_more, get_or-set_other, get_or_default, length-cut, Aggregate, Sum, Count, value_count, aligned, cut, column_after, numbers_from}
use Rattle.std.proofs.lemmas.{Grind.common_steps, Int.ints}

-- a list is the numbers of its positions
pub vector_same : (xs : List ℤ) (number : ℕ → ℤ) (n : ℕ) → length xs ≡ n
    → ((row : ℕ) → row < n → get_or xs row (pos 0) ≡ number row) → xs ≡ numbers_from number n
vector_same [] number zero long each = refl
vector_same [] number (suc n) long each = absurd (omega (arith, long))
vector_same (x ∷ xs) number zero long each = absurd (omega (arith, long))
vector_same (x ∷ xs) number (suc n) long each =
    let rest = vector_same xs (λ row. number (suc row)) n (omega (arith, long))
    (λ row h. each (suc row) (omega (arith, h))) in
    λ i. each 0 (omega arith) i ∷ rest i

pub vector_number : (number : ℕ → ℤ) (n row : ℕ) → row < n
    → get_or (numbers_from number n) row (pos 0) ≡ number row
vector_number number zero row h = absurd (omega (arith, h))
vector_number number (suc n) zero h = refl
vector_number number (suc n) (suc row) h = vector_number (λ r. number (suc r)) n row
    (omega (arith, h))

-- the first of the items from one on, and the others
pub first_left : (vs : List ℤ) (a : ℕ) (z : ℤ) (rest : List ℤ) → drop a vs ≡ z ∷ rest
    → (get_or vs a (pos 0) ≡ z) × (drop (suc a) vs ≡ rest)
first_left [] zero z rest e = absurd (let no : ⊥ = cc e in no)
first_left [] (suc a) z rest e = absurd (let no : ⊥ = cc e in no)
first_left (v ∷ vs) zero z rest e = ((let f : v ≡ z = cc e in f), (let f : vs ≡ rest = cc e in f))
first_left (v ∷ vs) (suc a) z rest e = first_left vs a z rest e

pub count_more : (g : Aggregate) (gs : List Aggregate)
    → value_count (g ∷ gs) ≡ value_count (g ∷ []) + value_count gs
count_more it gs = grind arith

pub count_left : (gs : List Aggregate) (a : ℕ) (g : Aggregate) (left others : ℕ) → a < length gs
    → left ≡ value_count (drop a gs) → value_count (get_or gs a g ∷ []) + others ≡ left
    → others ≡ value_count (drop (suc a) gs)
count_left gs a g left others h all some = grind (arith, drop-cons, count_more)

-- the number at a position, and those behind it
pub next_numbers : (gs : List Aggregate) (a : ℕ) (g : Aggregate) (vs left others : List ℤ) (z : ℤ)
    → a < length gs → drop a vs ≡ aligned (pos 1) (drop a gs) left
    → aligned (pos 1) (get_or gs a g ∷ drop (suc a) gs) left
    ≡ z ∷ aligned (pos 1) (drop (suc a) gs) others
    → (get_or vs a (pos 0) ≡ z) × (drop (suc a) vs ≡ aligned (pos 1) (drop (suc a) gs) others)
next_numbers gs a g vs left others z h are next =
    first_left vs a z _ (are ∙ ap (λ xs. aligned (pos 1) xs left) (drop-cons gs a g h) ∙ next)

-- ---- the cells of the first aggregates have the numbers

pub record TakenBelow (gs : List Aggregate) (ids : ℕ) (vectors : ℕ → List ℤ) (at : List ℕ)
    (old new : List ℤ) (n : ℕ) : Type 0 where
  pub done : (a : ℕ) → a < n → get_or (cut ids (length gs) new) a []
      ≡ column_after (get_or gs a Count) (vectors a) at (get_or (cut ids (length gs) old) a [])
      (length at)
  pub later : (a : ℕ) → n ≤ a
      → get_or (cut ids (length gs) new) a [] ≡ get_or (cut ids (length gs) old) a []
  pub len : length new ≡ length old

pub taken_more : (gs : List Aggregate) (ids : ℕ) (vectors : ℕ → List ℤ) (at : List ℕ)
    (old new next : List ℤ) (n : ℕ) (vector : List ℤ) → TakenBelow gs ids vectors at old new n
    → n < length gs → vector ≡ vectors n
    → cut ids (length gs) next ≡ set (cut ids (length gs) new) n
    (column_after (get_or gs n Sum) vector at (get_or (cut ids (length gs) new) n [])
    (length at))
    → length next ≡ length new → TakenBelow gs ids vectors at old next (n + 1)
taken_more gs ids vectors at old new next n vector was h same is long =
    grind (arith, common_steps, ints, cut, length-cut, below_more, get_or-set_other, get_or_default)
