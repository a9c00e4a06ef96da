-- Neighbours of sorted rows that become one: no keys are there twice.
use Rattle.std.{proofs.{Common.{◌≡◌, ◌∙◌, suc, ◌+◌, Bool, true, false, ◌||◌, List, [], ◌∷◌, Option, cond, get_or, refl, sym, subst, ap, arith}, lemmas.Bool.or_from}, specs.{Bool.Decides, Cmp.{IsTotalOrder, Lexicographic.slice_cmp}, List.Sorted.IsSortedBy, Ordering.{is_eq, is_lt}, declared.cmp.Ordering.{Ordering, TheVariants.Less}}}
use Rattle.star_schema.specs.{declared.group.Aggregate.Aggregate, Groups.GroupRow, Order.key_cmp}
use Rattle.star_merge_laws.{specs.Merging.merged_totals, specs.Regrouping.are_same, proofs.Regrouping.keys_are}
use Rattle.star_merge.{specs.Private.Adding.{AreApart, AreSums, alone, is_there, onto, together}, proofs.Adding.{together_alike, together_whole}}

module _ {K : Type 0} (cmp : K → K → Ordering)
    (decides : (a b : K) → Decides (is_eq (cmp a b)) (a ≡ b))
    (order : IsTotalOrder (slice_cmp (key_cmp cmp))) where
  abbrev by_keys : GroupRow K → GroupRow K → Ordering
  by_keys a b = slice_cmp (key_cmp cmp) a.keys b.keys

  abbrev IsNext : GroupRow K → List (GroupRow K) → Type 0
  IsNext row [] = Unit {0}
  IsNext row (next ∷ rows) = is_lt (by_keys next row) ≡ false

  abbrev AreRising : List (GroupRow K) → Type 0
  AreRising [] = Unit {0}
  AreRising (row ∷ rows) = IsNext row rows × AreRising rows

  first_next : (row : GroupRow K) (rows : List (GroupRow K))
      → IsSortedBy (λ a b. is_lt (by_keys a b)) (row ∷ rows) → IsNext row rows
  first_next row [] up = tt
  first_next row (next ∷ rows) up = up 0 row (omega arith) (omega arith)

  rising : (rows : List (GroupRow K)) → IsSortedBy (λ a b. is_lt (by_keys a b)) rows
      → AreRising rows
  rising [] up = tt
  rising (row ∷ rows) up = (
    first_next row rows up,
    rising rows (λ k d from within.
        let e : suc k + 1 ≡ suc (k + 1) = omega arith in
        subst (λ n. is_lt (by_keys (get_or (row ∷ rows) n d) (get_or (row ∷ rows) (suc k) d))
        ≡ false)
        e (up (suc k) d (omega arith) (omega (arith, within)))),
  )

  abbrev IsLess : GroupRow K → List (GroupRow K) → Type 0
  IsLess row [] = Unit {0}
  IsLess row (next ∷ rows) = by_keys row next ≡ Less

  abbrev AreUp : List (GroupRow K) → Type 0
  AreUp [] = Unit {0}
  AreUp (row ∷ rows) = IsLess row rows × AreUp rows

  -- what is less than the first is not there
  below_all : (row next : GroupRow K) (rows : List (GroupRow K)) → by_keys row next ≡ Less
      → AreUp (next ∷ rows) → is_there cmp row.keys (next ∷ rows) ≡ false
  below_all row next [] less up = ap (λ o. is_eq o || false) less
  below_all row next (later ∷ rows) less up =
      or_from (are_same cmp row.keys next.keys) (is_there cmp row.keys (later ∷ rows))
      (ap is_eq less)
      (below_all row later rows (order.trans row.keys next.keys later.keys less up.0) up.1)

  apart : (rows : List (GroupRow K)) → AreUp rows → AreApart cmp rows
  apart [] up = tt
  apart (row ∷ []) up = (refl, tt)
  apart (row ∷ next ∷ rows) up = (below_all row next rows up.0 up.1, apart (next ∷ rows) up.1)

  is_less : (a b : GroupRow K) → is_lt (by_keys b a) ≡ false → are_same cmp a.keys b.keys ≡ false
      → by_keys a b ≡ Less
  is_less a b not_less not_same = grind (arith, order.antisymm b.keys a.keys)

  module _ (gs : List Aggregate) where
    record Headed (own : List (Option K)) (rows : List (GroupRow K)) : Type 0 where
      first : GroupRow K
      rest : List (GroupRow K)
      is : rows ≡ first ∷ rest
      keys : first.keys ≡ own

    headed : (row : GroupRow K) (rows : List (GroupRow K)) → Headed row.keys (onto cmp gs row rows)
    headed row [] = record { first = alone gs row; rest = []; is = refl; keys = refl }
    headed row (next ∷ rows) = by (are_same cmp row.keys next.keys)
      where
        by : (b : Bool) → Headed row.keys (cond b
            (record { keys = row.keys; totals = merged_totals gs row.totals next.totals } ∷ rows)
            (alone gs row ∷ next ∷ rows))
        by true = record {
          first = record { keys = row.keys; totals = merged_totals gs row.totals next.totals };
          rest = rows;
          is = refl;
          keys = refl;
        }
        by false = record { first = alone gs row; rest = next ∷ rows; is = refl; keys = refl }

    less_again : (keys : List (Option K)) (row next : GroupRow K) (rows : List (GroupRow K))
        → row.keys ≡ next.keys → IsLess next rows → IsLess row rows
    less_again keys row next [] same less = tt
    less_again keys row next (later ∷ rows) same less =
        ap (λ ks. slice_cmp (key_cmp cmp) ks later.keys) same ∙ less

    onto_up : (row next : GroupRow K) (rows : List (GroupRow K)) → is_lt (by_keys next row) ≡ false
        → AreUp (next ∷ rows) → AreUp (onto cmp gs row (next ∷ rows))
    onto_up row next rows not_less up =
        grind (arith, keys_are cmp decides row.keys next.keys, less_again, is_less)

    together_up : (rows : List (GroupRow K)) → AreRising rows → AreUp (together cmp gs rows)
    together_up [] up = tt
    together_up (row ∷ []) up = (tt, tt)
    together_up (row ∷ next ∷ rows) up =
        let head = headed next (together cmp gs rows) in
        subst (λ all. AreUp (onto cmp gs row all)) (sym head.is)
        (onto_up row head.first head.rest
        (ap (λ ks. is_lt (slice_cmp (key_cmp cmp) ks row.keys)) head.keys ∙ up.0)
        (subst AreUp head.is (together_up (next ∷ rows) up.1)))

    -- neighbours of sorted rows together are their sums
    pub sums_of_sorted : (rows : List (GroupRow K)) → IsSortedBy (λ a b. is_lt (by_keys a b)) rows
        → AreSums cmp gs rows (together cmp gs rows)
    sums_of_sorted rows up = record {
      alike = together_alike cmp decides gs rows;
      whole = together_whole cmp decides gs rows;
      apart = apart (together cmp gs rows) (together_up rows (rising rows up));
    }
