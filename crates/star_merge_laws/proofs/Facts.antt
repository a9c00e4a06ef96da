-- The facts of two parts together are those of the whole.
use Rattle.std.proofs.Common.{◌≡◌, ◌⊎◌, ℕ, ℤ, ◌+◌, List, [], ◌∷◌, ◌++◌, length, refl, sym, subst, ap, arith, ⊎_elim}
use Rattle.star_merge_laws.proofs.{Common.{All, All-append, All-permutation, All-weaker, AreFactsOf, ColumnId, Contains, Contains-append_left, Contains-append_right, Contains-permutation, Database, Facts, IsPermutation, IsPermutation-map, Range, TableId, Value, append-nil, clamps, contains_cases, contains_none, fold-int_max_reached, fold-int_min_reached, greatest, greatest_above, greatest_is, greatest_there, hull, hull_of_rows, int_max, int_min, ints, joined_facts, least, least_below, least_is, least_there, length-append, length_permutation, numbers_at, numbers_of, rows_in, with_lineorder, ◌≤ℤ◌}, LoadableParts.numbers_joined}

min_is_one : (x y : ℤ) → (int_min x y ≡ x) ⊎ (int_min x y ≡ y)
min_is_one x y = grind (arith, ints, ⊎_elim, contains_none, contains_cases, fold-int_min_reached)

max_is_one : (x y : ℤ) → (int_max x y ≡ x) ⊎ (int_max x y ≡ y)
max_is_one x y = grind (arith, ints, ⊎_elim, contains_none, contains_cases, fold-int_max_reached)

-- the end of some numbers, least or greatest: one of them that bounds all
module _ (end : List ℤ → ℤ) (one : ℤ → ℤ → ℤ) (R : ℤ → ℤ → Type 0)
    (is : (zs : List ℤ) (z : ℤ) → All (R z) zs → Contains zs z → z ≡ end zs)
    (bound : (zs : List ℤ) → All (R (end zs)) zs)
    (there : (z : ℤ) (zs : List ℤ) → Contains (z ∷ zs) (end (z ∷ zs))) where
  end_joined : ((a b : ℤ) → (one a b ≡ a) ⊎ (one a b ≡ b)) → ((a b n : ℤ) → R a n → R (one a b) n)
      → ((a b n : ℤ) → R b n → R (one a b) n) → (x : ℤ) (xs : List ℤ) (y : ℤ) (ys : List ℤ)
      → end ((x ∷ xs) ++ (y ∷ ys)) ≡ one (end (x ∷ xs)) (end (y ∷ ys))
  end_joined is_one left right x xs y ys =
      let a = end (x ∷ xs) in
      let b = end (y ∷ ys) in
      sym (is ((x ∷ xs) ++ (y ∷ ys)) (one a b)
      (All-append (R (one a b)) (x ∷ xs) (y ∷ ys)
      (All-weaker (R a) (R (one a b)) (left a b) (x ∷ xs) (bound (x ∷ xs)))
      (All-weaker (R b) (R (one a b)) (right a b) (y ∷ ys) (bound (y ∷ ys))))
      (⊎_elim {C = Contains ((x ∷ xs) ++ (y ∷ ys)) (one a b)}
      (λ e. subst (Contains ((x ∷ xs) ++ (y ∷ ys))) (sym e)
      (Contains-append_left (x ∷ xs) (y ∷ ys) a (there x xs)))
      (λ e. subst (Contains ((x ∷ xs) ++ (y ∷ ys))) (sym e)
      (Contains-append_right (x ∷ xs) (y ∷ ys) b (there y ys)))
      (is_one a b)))

  end_moved : (xs ys : List ℤ) → IsPermutation xs ys → end xs ≡ end ys
  end_moved [] [] h = refl
  end_moved [] (y ∷ ys) h = absurd (omega (arith, length_permutation [] (y ∷ ys) h))
  end_moved (x ∷ xs) [] h = absurd (omega (arith, length_permutation (x ∷ xs) [] h))
  end_moved (x ∷ xs) (y ∷ ys) h =
      is (y ∷ ys) (end (x ∷ xs))
      (All-permutation (R (end (x ∷ xs))) (x ∷ xs) (y ∷ ys) h (bound (x ∷ xs)))
      (Contains-permutation (x ∷ xs) (y ∷ ys) (end (x ∷ xs)) h (there x xs))

least_joined : (x : ℤ) (xs : List ℤ) (y : ℤ) (ys : List ℤ)
    → least ((x ∷ xs) ++ (y ∷ ys)) ≡ int_min (least (x ∷ xs)) (least (y ∷ ys))
least_joined =
    end_joined least int_min ◌≤ℤ◌ least_is least_below least_there min_is_one
    (λ a b n h. omega (arith, ints, clamps, h)) (λ a b n h. omega (arith, ints, clamps, h))

greatest_joined : (x : ℤ) (xs : List ℤ) (y : ℤ) (ys : List ℤ)
    → greatest ((x ∷ xs) ++ (y ∷ ys)) ≡ int_max (greatest (x ∷ xs)) (greatest (y ∷ ys))
greatest_joined =
    end_joined greatest int_max (λ m n. n ≤ℤ m) greatest_is greatest_above greatest_there
    max_is_one
    (λ a b n h. omega (arith, ints, clamps, h)) (λ a b n h. omega (arith, ints, clamps, h))

-- the bounds of a column over some rows
abbrev pub range_over : ColumnId → List (List Value) → Range
range_over c rows =
    record { low = least (numbers_of c rows); high = greatest (numbers_of c rows) }

hull_itself : (m n : ℕ) (r : Range) → hull_of_rows m n r r ≡ r
hull_itself it n r = grind (arith, clamps)

both_filled : (c : ColumnId) (x : List Value) (xs : List (List Value)) (y : List Value)
    (ys : List (List Value))
    → hull (range_over c (x ∷ xs)) (range_over c (y ∷ ys)) ≡ range_over c ((x ∷ xs) ++ (y ∷ ys))
unfolding numbers_at
both_filled c x xs y ys = grind (arith, numbers_joined, least_joined, greatest_joined)

over_both : (c : ColumnId) (xs ys : List (List Value))
    → hull_of_rows (length xs) (length ys) (range_over c xs) (range_over c ys)
    ≡ range_over c (xs ++ ys)
over_both c [] ys = refl
over_both c (x ∷ xs) [] = ap (range_over c) (sym (append-nil (x ∷ xs)))
over_both c (x ∷ xs) (y ∷ ys) = both_filled c x xs y ys

module _ (database : Database) (xs ys : List (List Value)) where
  pub in_table : (c : ColumnId) (t : TableId)
      → hull_of_rows (length xs) (length ys) (range_over c (rows_in (with_lineorder database xs) t))
      (range_over c (rows_in (with_lineorder database ys) t))
      ≡ range_over c (rows_in (with_lineorder database (xs ++ ys)) t)
  in_table c it = grind (arith, hull_itself, over_both)

  pub facts_joined : (a b : Facts) → AreFactsOf (with_lineorder database xs) a
      → AreFactsOf (with_lineorder database ys) b
      → AreFactsOf (with_lineorder database (xs ++ ys)) (joined_facts a b)
  facts_joined a b of_xs of_ys = grind (arith, length-append, in_table)

-- ---- the order of rows

same_range : (c : ColumnId) (xs ys : List (List Value)) → IsPermutation xs ys
    → range_over c xs ≡ range_over c ys
unfolding numbers_at
same_range c xs ys h =
    let numbers = IsPermutation-map _ xs ys h in
    let low = end_moved least int_min ◌≤ℤ◌ least_is least_below least_there
    (numbers_of c xs) (numbers_of c ys) numbers in
    let high = end_moved greatest int_max (λ m n. n ≤ℤ m) greatest_is greatest_above greatest_there
    (numbers_of c xs) (numbers_of c ys) numbers in
    λ i. record { low = low i; high = high i }

module _ (database : Database) (xs ys : List (List Value)) (h : IsPermutation xs ys) where
  same_in_table : (c : ColumnId) (t : TableId)
      → range_over c (rows_in (with_lineorder database xs) t)
      ≡ range_over c (rows_in (with_lineorder database ys) t)
  same_in_table c it = grind (arith, same_range)

  -- the facts don't hang on the order of lineorder's rows
  pub facts_reordered : (facts : Facts) → AreFactsOf (with_lineorder database xs) facts
      → AreFactsOf (with_lineorder database ys) facts
  facts_reordered facts are = grind (arith, length_permutation, same_in_table)
