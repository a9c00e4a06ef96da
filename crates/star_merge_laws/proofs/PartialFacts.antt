-- What facts tell of a query, totals in any order, and partials by plans.
use Rattle.std.proofs.Common.{◌≡◌, ◌∙◌, ℕ, ◌+◌, ◌≤◌, suc, true, List, [], ◌∷◌, Option, inl, inr, length, map, refl, sym, ap, arith}
use Rattle.star_merge_laws.proofs.{Common.{Aggregate, AreMerged, Contains-permutation, GroupColumn, GroupRow, IsGroup, IsPermutation, IsPermutation-map, IsPermutation-sym, IsSoundPlan, Plan, Shape, Value, and_from, and_parts, as_row, belongs, columns_at, filter_reordered, is_group_column, length-append, list_all, list_all-append, lt-ltb, ltb-true, merged, merged_totals, nat_lt, parts_of, plain_plan, reordered, total_over, value_cmp, ℤ}, Totals.{merged_assoc, merged_comm}}
use Rattle.star_schema.specs.declared.group.GroupColumn.TheVariants as group

-- ---- totals together, in any order of the groups

merged_turned : (g : Aggregate) (x y r : Option ℤ)
    → merged g x (merged g y r) ≡ merged g y (merged g x r)
merged_turned g x y r =
    sym (merged_assoc g x y r) ∙ ap (λ t. merged g t r) (merged_comm g x y) ∙ merged_assoc g y x r

totals_turned : (gs : List Aggregate) (xs ys rs : List (Option ℤ))
    → merged_totals gs xs (merged_totals gs ys rs) ≡ merged_totals gs ys (merged_totals gs xs rs)
totals_turned [] xs ys rs = refl
totals_turned (g ∷ gs) [] [] rs = refl
totals_turned (g ∷ gs) [] (y ∷ ys) rs = refl
totals_turned (g ∷ gs) (x ∷ xs) [] rs = refl
totals_turned (g ∷ gs) (x ∷ xs) (y ∷ ys) [] = refl
totals_turned (g ∷ gs) (x ∷ xs) (y ∷ ys) (r ∷ rs) =
    λ i. merged_turned g x y r i ∷ totals_turned gs xs ys rs i

pub total_reordered : (gs : List Aggregate) (xs ys : List (GroupRow Value)) → IsPermutation xs ys
    → total_over gs xs ≡ total_over gs ys
total_reordered gs =
    reordered (λ xs ys. total_over gs xs ≡ total_over gs ys) (λ xs. refl) (λ xs ys zs a b. a ∙ b)
    (λ x xs ys h. ap (merged_totals gs x.totals) h)
    (λ x y xs. totals_turned gs x.totals y.totals (total_over gs xs))

-- ---- the plain plan of a sound plan is sound

module _ {X : Type 0} where
  count_columns : (column : ℕ → GroupColumn) (index : ℕ) (xs : List X)
      → length (columns_at column index xs) ≡ length xs
  count_columns column index [] = refl
  count_columns column index (x ∷ xs) = ap suc (count_columns column (index + 1) xs)

  keys_there : (keys aggregates index : ℕ) (xs : List X) → index + length xs ≤ keys
      → list_all (is_group_column keys aggregates) (columns_at group.Key index xs) ≡ true
  keys_there keys aggregates index [] h = refl
  keys_there keys aggregates index (x ∷ xs) h =
      and_from (nat_lt index keys) _ (lt-ltb index keys (omega (arith, h)))
      (keys_there keys aggregates (index + 1) xs (omega (arith, h)))

  aggregates_there : (keys aggregates index : ℕ) (xs : List X) → index + length xs ≤ aggregates
      → list_all (is_group_column keys aggregates) (columns_at group.Aggregate index xs) ≡ true
  aggregates_there keys aggregates index [] h = refl
  aggregates_there keys aggregates index (x ∷ xs) h =
      and_from (nat_lt index aggregates) _ (lt-ltb index aggregates (omega (arith, h)))
      (aggregates_there keys aggregates (index + 1) xs (omega (arith, h)))

some_column : (k a : ℕ) (columns : List GroupColumn) → 1 ≤ length columns
    → list_all (is_group_column k a) columns ≡ true → 1 ≤ k + a
some_column k a [] some all = absurd (omega (arith, some))
some_column k a (group.Key n ∷ columns) some all =
    let less = ltb-true n k (and_parts (nat_lt n k) (list_all (is_group_column k a) columns) all).0
    in omega (arith, less)
some_column k a (group.Aggregate n ∷ columns) some all =
    let less = ltb-true n a (and_parts (nat_lt n a) (list_all (is_group_column k a) columns) all).0
    in omega (arith, less)

pub plain_sound : (p : Plan) → IsSoundPlan p → IsSoundPlan (plain_plan p)
plain_sound p s =
    let k = length p.keys in
    let a = length p.measures in
    let columns = length-append (columns_at group.Key 0 p.keys)
    (columns_at group.Aggregate 0 p.measures) in
    let keys = count_columns group.Key 0 p.keys in
    let aggregates = count_columns group.Aggregate 0 p.measures in
    let some = some_column k a p.items s.shown s.items in
    record {
      joins = s.joins;
      distinct = s.distinct;
      conjuncts = s.conjuncts;
      keys = s.keys;
      measures = s.measures;
      names = s.names;
      items = list_all-append (is_group_column k a) (columns_at group.Key 0 p.keys)
          (columns_at group.Aggregate 0 p.measures)
          ∙ and_from _ _ (keys_there k a 0 p.keys (omega arith))
          (aggregates_there k a 0 p.measures (omega arith));
      shown = omega (arith, columns, keys, aggregates, some);
      sorts = refl;
    }

-- ---- told groups in any order

module _ (s : Shape) (count : ℕ) (gs : List Aggregate) where
  group_moved : (xs ys : List (GroupRow Value)) → IsPermutation xs ys → (keys : List (Option Value))
      → IsGroup s count (map as_row xs) keys → IsGroup s count (map as_row ys) keys
  group_moved xs ys h keys (is, inl row) = (
    is,
    inl (
      row.0,
      Contains-permutation (map as_row xs) (map as_row ys) row.0
          (IsPermutation-map as_row xs ys h) row.1,
      row.2,
    ),
  )
  group_moved xs ys h keys (is, inr none) = (is, inr none)

  pub merged_moved : (xs ys groups : List (GroupRow Value)) → IsPermutation xs ys
      → AreMerged value_cmp s count gs xs groups → AreMerged value_cmp s count gs ys groups
  merged_moved xs ys groups h are = record {
    each = λ group c. (
      group_moved xs ys h group.keys (are.each group c).0,
      (are.each group c).1 ∙ total_reordered gs (parts_of value_cmp group.keys xs)
          (parts_of value_cmp group.keys ys)
          (filter_reordered (λ g. belongs value_cmp group.keys (as_row g).keys) xs ys h),
    );
    all = λ keys is. are.all keys (group_moved ys xs (IsPermutation-sym xs ys h) keys is);
  }
