-- Groups and their aggregates don't hang on the order of the rows.
use Rattle.std.{proofs.Common.{◌≡◌, ◌∙◌, ℕ, ◌+◌, List, [], ◌∷◌, Option, Some, None, refl, sym, ap, arith, inl, inr}, proofs.lemmas.Int.{ints, clamps}, proofs.lemmas.List.Sorted.{IsPermutation-map, IsPermutation-sym, Contains-permutation, length_permutation}, specs.Prelude.{ℤ, pos, ◌+ℤ◌, slice_index_or}, specs.Int.{int_min, int_max}, specs.List.Sorted.IsPermutation, specs.declared.cmp.Ordering.Ordering}
use Rattle.star_schema.specs.{Groups.{Entry, IsGroup, belongs, members, joined_with, joined, aggregate, numbers_for, totals_from, totals_of, GroupRow, AreGroups}, declared.group.Shape.Shape, declared.group.Aggregate.Aggregate, declared.group.Aggregate.TheVariants.{Sum, Count, Min, Max}}
use Rattle.star_query_meaning.proofs.Reorderings.{reordered, filter_reordered}

module _ (f : ℤ → ℤ → ℤ) (comm : (x y : ℤ) → f x y ≡ f y x)
    (assoc : (x y z : ℤ) → f (f x y) z ≡ f x (f y z)) where
  two_turned : (x y : ℤ) (o : Option ℤ)
      → joined_with f x (joined_with f y o) ≡ joined_with f y (joined_with f x o)
  two_turned x y None = ap Some (comm x y)
  two_turned x y (Some z) = ap Some (sym (assoc x y z) ∙ ap (λ u. f u z) (comm x y) ∙ assoc y x z)

  joined_reordered : (xs ys : List ℤ) → IsPermutation xs ys → joined f xs ≡ joined f ys
  joined_reordered =
      reordered (λ xs ys. joined f xs ≡ joined f ys) (λ xs. refl) (λ xs ys zs a b. a ∙ b)
      (λ x xs ys h. ap (joined_with f x) h)
      (λ x y xs. two_turned x y (joined f xs))

pub aggregate_reordered : (a : Aggregate) (xs ys : List ℤ) → IsPermutation xs ys
    → aggregate a xs ≡ aggregate a ys
aggregate_reordered Count xs ys h = ap (λ n. Some (pos n)) (sym (length_permutation xs ys h))
aggregate_reordered Sum xs ys h =
    joined_reordered (λ x y. x +ℤ y) (λ x y. omega (arith, ints)) (λ x y z. omega (arith, ints)) xs
    ys h
aggregate_reordered Min xs ys h = joined_reordered int_min (λ x y. omega (arith, ints, clamps))
    (λ x y z. omega (arith, ints, clamps)) xs ys h
aggregate_reordered Max xs ys h = joined_reordered int_max (λ x y. omega (arith, ints, clamps))
    (λ x y z. omega (arith, ints, clamps)) xs ys h

module _ {K : Type 0} where
  totals_from_reordered : (gs : List Aggregate) (index : ℕ) (es fs : List (Entry K))
      → IsPermutation es fs → totals_from gs index es ≡ totals_from gs index fs
  totals_from_reordered [] index es fs h = refl
  totals_from_reordered (g ∷ gs) index es fs h =
      λ i. aggregate_reordered g (numbers_for index es) (numbers_for index fs)
      (IsPermutation-map (λ e. slice_index_or e.values index (pos 0)) es fs h) i
      ∷ totals_from_reordered gs (index + 1) es fs h i

  pub totals_reordered : (gs : List Aggregate) (es fs : List (Entry K)) → IsPermutation es fs
      → totals_of gs es ≡ totals_of gs fs
  totals_reordered gs es fs h = totals_from_reordered gs 0 es fs h

  group_reordered : (s : Shape) (count : ℕ) (es fs : List (Entry K)) (keys : List (Option K))
      → IsPermutation es fs → IsGroup s count es keys → IsGroup s count fs keys
  group_reordered s count es fs keys h (shown, inl g) =
      (shown, inl (g.0, Contains-permutation es fs g.0 h g.1, g.2))
  group_reordered s count es fs keys h (shown, inr all) = (shown, inr all)

  pub groups_reordered : (cmp : K → K → Ordering) (s : Shape) (count : ℕ) (gs : List Aggregate)
      (es fs : List (Entry K)) (rows : List (GroupRow K)) → IsPermutation es fs
      → AreGroups cmp s count gs es rows → AreGroups cmp s count gs fs rows
  groups_reordered cmp s count gs es fs rows h are = record {
    each = λ row has. (let known = are.each row has in (
      group_reordered s count es fs row.keys h known.0,
      known.1 ∙ totals_reordered gs (members cmp row.keys es) (members cmp row.keys fs)
          (filter_reordered (λ e. belongs cmp row.keys e.keys) es fs h),
    ));
    all = λ keys is. are.all keys
        (group_reordered s count fs es keys (IsPermutation-sym es fs h) is);
  }
