-- Rows that are added up have the keys and the totals of the rows that they are made of.
use Rattle.std.{proofs.Common.{◌≡◌, ◌∙◌, ℕ, ◌+◌, Bool, true, false, ◌||◌, List, [], ◌∷◌, ◌++◌, Option, cond, arith, refl, sym, ap}, proofs.lemmas.List.Elements.{All-cons, All-head, All-nil, All-tail}, specs.Prelude.{ℤ, filter}, specs.Bool.Decides, specs.List.All, specs.Ordering.is_eq, specs.declared.cmp.Ordering.Ordering}
use Rattle.star_schema.specs.{declared.group.Aggregate.Aggregate, declared.group.Aggregate.TheVariants.{Sum, Count, Min, Max}, Groups.{GroupRow, aggregate, totals_from, totals_of}}
use Rattle.star_merge_laws.{specs.Merging.{merged, merged_totals, total_over}, specs.Regrouping.are_same, proofs.Totals.{merged_assoc, merged_comm}, proofs.Regrouping.keys_are}
use Rattle.star_merge.specs.Private.Adding.{AddUpAlike, alone, is_there, onto, together, total_at}

-- ---- totals

pub totals_assoc : (gs : List Aggregate) (xs ys zs : List (Option ℤ))
    → merged_totals gs (merged_totals gs xs ys) zs ≡ merged_totals gs xs (merged_totals gs ys zs)
totals_assoc [] xs ys zs = refl
totals_assoc (g ∷ gs) [] ys zs = refl
totals_assoc (g ∷ gs) (x ∷ xs) [] zs = refl
totals_assoc (g ∷ gs) (x ∷ xs) (y ∷ ys) [] = refl
totals_assoc (g ∷ gs) (x ∷ xs) (y ∷ ys) (z ∷ zs) =
    λ i. merged_assoc g x y z i ∷ totals_assoc gs xs ys zs i

pub totals_comm : (gs : List Aggregate) (xs ys : List (Option ℤ))
    → merged_totals gs xs ys ≡ merged_totals gs ys xs
totals_comm [] xs ys = refl
totals_comm (g ∷ gs) [] [] = refl
totals_comm (g ∷ gs) [] (y ∷ ys) = refl
totals_comm (g ∷ gs) (x ∷ xs) [] = refl
totals_comm (g ∷ gs) (x ∷ xs) (y ∷ ys) = λ i. merged_comm g x y i ∷ totals_comm gs xs ys i

none_twice : (g : Aggregate) → merged g (aggregate g []) (aggregate g []) ≡ aggregate g []
none_twice Sum = refl
none_twice Count = refl
none_twice Min = refl
none_twice Max = refl

nothing_from : (K : Type 0) (gs : List Aggregate) (index : ℕ)
    → merged_totals gs (totals_from {K = K} gs index []) (totals_from {K = K} gs index [])
    ≡ totals_from {K = K} gs index []
nothing_from K [] index = refl
nothing_from K (g ∷ gs) index = λ i. none_twice g i ∷ nothing_from K gs (index + 1) i

-- over no rows
abbrev nothing_of : Type 0 → List Aggregate → List (Option ℤ)
nothing_of K gs = totals_of {K = K} gs []

nothing_twice : (K : Type 0) (gs : List Aggregate)
    → merged_totals gs (nothing_of K gs) (nothing_of K gs) ≡ nothing_of K gs
nothing_twice K gs = nothing_from K gs 0

module _ {K : Type 0} where
  module _ (gs : List Aggregate) where
    abbrev pub over : List (GroupRow K) → List (Option ℤ)
    over rows = total_over gs rows

    -- what is over nothing adds nothing to what is over rows
    pub nothing_added : (rows : List (GroupRow K))
        → merged_totals gs (nothing_of K gs) (over rows) ≡ over rows
    nothing_added [] = nothing_twice K gs
    nothing_added (row ∷ rows) =
        sym (totals_assoc gs (nothing_of K gs) row.totals (over rows))
        ∙ ap (λ ts. merged_totals gs ts (over rows)) (totals_comm gs (nothing_of K gs) row.totals)
        ∙ totals_assoc gs row.totals (nothing_of K gs) (over rows)
        ∙ ap (merged_totals gs row.totals) (nothing_added rows)

    pub over_append : (rows more : List (GroupRow K))
        → over (rows ++ more) ≡ merged_totals gs (over rows) (over more)
    over_append [] more = sym (nothing_added more)
    over_append (row ∷ rows) more =
        ap (merged_totals gs row.totals) (over_append rows more)
        ∙ sym (totals_assoc gs row.totals (over rows) (over more))

    -- a row alone before others
    alone_over : (row : GroupRow K) (rows : List (GroupRow K))
        → merged_totals gs (alone gs row).totals (over rows)
        ≡ merged_totals gs row.totals (over rows)
    alone_over row rows =
        totals_assoc gs row.totals (nothing_of K gs) (over rows)
        ∙ ap (merged_totals gs row.totals) (nothing_added rows)

    alone_twice : (row : GroupRow K) → (alone gs (alone gs row)).totals ≡ (alone gs row).totals
    alone_twice row =
        totals_assoc gs row.totals (nothing_of K gs) (nothing_of K gs)
        ∙ ap (merged_totals gs row.totals) (nothing_twice K gs)

-- ---- a row before others

or_twice : (a b : Bool) → (a || b) ≡ (a || (a || b))
or_twice true b = refl
or_twice false b = refl

module _ {K : Type 0} (cmp : K → K → Ordering)
    (decides : (a b : K) → Decides (is_eq (cmp a b)) (a ≡ b)) (gs : List Aggregate) where
  abbrev there : List (Option K) → List (GroupRow K) → Bool
  there keys rows = is_there cmp keys rows

  abbrev at : List (Option K) → List (GroupRow K) → List (Option ℤ)
  at keys rows = total_at cmp gs keys rows

  abbrev same : List (Option K) → List (Option K) → Bool
  same a b = are_same cmp a b

  abbrev with_first : Bool → GroupRow K → List (GroupRow K) → List (GroupRow K)
  with_first b row rows = cond b (row ∷ rows) rows

  abbrev with_keys : List (Option K) → List (GroupRow K) → List (GroupRow K)
  with_keys keys rows = filter (λ row. same keys row.keys) rows

  onto_there : (keys : List (Option K)) (row : GroupRow K) (rows : List (GroupRow K))
      → there keys (onto cmp gs row rows) ≡ there keys (row ∷ rows)
  onto_there keys row [] = refl
  onto_there keys row (next ∷ rows) =
      grind (arith, keys_are cmp decides row.keys next.keys, or_twice)

  onto_at : (keys : List (Option K)) (row : GroupRow K) (rows : List (GroupRow K))
      → at keys (onto cmp gs row rows) ≡ at keys (row ∷ rows)
  onto_at keys row [] = grind (arith, alone_over gs row [])
  onto_at keys row (next ∷ rows) =
      grind (
        arith,
        keys_are cmp decides row.keys next.keys,
        alone_over gs row,
        totals_assoc gs row.totals next.totals,
      )

  -- ---- all rows

  abbrev sums : List (GroupRow K) → List (GroupRow K)
  sums rows = together cmp gs rows

  pub together_alike : (rows : List (GroupRow K)) → AddUpAlike cmp gs (sums rows) rows
  together_alike rows = record { keys = λ keys. kept keys rows; totals = λ keys. added keys rows }
    where
      kept : (keys : List (Option K)) (rows : List (GroupRow K))
          → there keys (sums rows) ≡ there keys rows
      kept keys [] = refl
      kept keys (row ∷ rows) =
          onto_there keys row (sums rows) ∙ ap (λ b. same keys row.keys || b) (kept keys rows)

      added : (keys : List (Option K)) (rows : List (GroupRow K))
          → at keys (sums rows) ≡ at keys rows
      added keys [] = refl
      added keys (row ∷ rows) = grind (arith, onto_at keys row (sums rows), added keys rows)

  abbrev IsWhole : GroupRow K → Type 0
  IsWhole row = (alone gs row).totals ≡ row.totals

  onto_whole : (row : GroupRow K) (rows : List (GroupRow K)) → All IsWhole rows
      → All IsWhole (onto cmp gs row rows)
  onto_whole row [] all = All-cons IsWhole (alone gs row) [] (alone_twice gs row) (All-nil IsWhole)
  onto_whole row (next ∷ rows) all =
      grind (
        arith,
        All-cons IsWhole,
        All-head IsWhole next rows all,
        All-tail IsWhole next rows all,
        alone_twice gs row,
        totals_assoc gs row.totals next.totals (totals_of {K = K} gs []),
      )

  pub together_whole : (rows : List (GroupRow K)) → All IsWhole (sums rows)
  together_whole [] = All-nil IsWhole
  together_whole (row ∷ rows) = onto_whole row (sums rows) (together_whole rows)
