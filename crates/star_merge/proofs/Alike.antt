-- Rows that add up alike: in any order, one after another, and as sums.
use Rattle.std.{proofs.Common.{◌≡◌, ◌∙◌, Bool, true, false, ◌||◌, List, [], ◌∷◌, ◌++◌, Option, Some, None, cond, arith, refl, sym, subst, ap, true≢false, ⊎_elim}, proofs.lemmas.Bool.{or_cases, or_left, or_parts, or_from, or_right}, proofs.lemmas.List.Elements.{All-head, All-tail, filter-append}, proofs.lemmas.List.Folds.list_any-append, proofs.lemmas.List.Sorted.All-permutation, specs.Prelude.{ℤ, filter}, specs.Bool.Decides, specs.Cmp.Lexicographic.slice_cmp, specs.List.{All, Contains}, specs.List.Sorted.IsPermutation, specs.Ordering.{is_eq, ordering_then}, specs.declared.cmp.Ordering.Ordering, specs.declared.cmp.Ordering.TheVariants.{Less, Equal, Greater}}
use Rattle.star_common.proofs.Members.{contains_cases, contains_here, contains_later, contains_none}
use Rattle.star_schema.specs.{declared.group.Aggregate.Aggregate, Groups.GroupRow, Order.key_cmp}
use Rattle.star_merge_laws.{specs.Merging.{merged_totals, total_over}, specs.Regrouping.are_same, proofs.Regrouping.keys_are}
use Rattle.star_query_meaning.proofs.Reorderings.{reordered}
use Rattle.star_merge.{specs.Private.Adding.{AddUpAlike, AreApart, AreSums, alone, is_there, total_at}, proofs.Adding.{over_append, totals_assoc, totals_comm}}

or_swap : (a b c : Bool) → (a || (b || c)) ≡ (b || (a || c))
or_swap true true c = refl
or_swap true false c = refl
or_swap false b c = refl

module _ {K : Type 0} (cmp : K → K → Ordering)
    (decides : (a b : K) → Decides (is_eq (cmp a b)) (a ≡ b)) where
  abbrev same : List (Option K) → List (Option K) → Bool
  same a b = are_same cmp a b

  abbrev there : List (Option K) → List (GroupRow K) → Bool
  there keys rows = is_there cmp keys rows

  -- ---- keys

  key_itself : (k : Option K) → is_eq (key_cmp cmp k k) ≡ true
  key_itself None = refl
  key_itself (Some a) = (decides a a).1 refl

  then_equal : (o p : Ordering) → is_eq o ≡ true → is_eq p ≡ true → is_eq (ordering_then o p) ≡ true
  then_equal Equal p h k = k
  then_equal Less p h k = absurd (true≢false (sym h))
  then_equal Greater p h k = absurd (true≢false (sym h))

  pub same_itself : (ks : List (Option K)) → same ks ks ≡ true
  same_itself [] = refl
  same_itself (k ∷ ks) =
      then_equal (key_cmp cmp k k) (slice_cmp (key_cmp cmp) ks ks) (key_itself k) (same_itself ks)

  not_same : (a b : List (Option K)) → same a b ≡ false → same b a ≡ false
  not_same a b e = grind (arith, same_itself a, keys_are cmp decides b a)

  pub from_there : (keys : List (Option K)) (rows : List (GroupRow K)) → there keys rows ≡ true
      → (row : GroupRow K) × Contains rows row × (row.keys ≡ keys)
  from_there keys [] h = absurd (true≢false (sym h))
  from_there keys (row ∷ rows) h =
      ⊎_elim {C = (r : GroupRow K) × Contains (row ∷ rows) r × (r.keys ≡ keys)}
      (λ e. (row, contains_here row rows, sym (keys_are cmp decides keys row.keys e)))
      (λ e. let found = from_there keys rows e in
      (found.0, contains_later row rows found.0 found.1, found.2))
      (or_cases (same keys row.keys) (there keys rows) h)

  pub to_there : (row : GroupRow K) (rows : List (GroupRow K)) → Contains rows row
      → there row.keys rows ≡ true
  to_there row [] c = absurd (contains_none row c)
  to_there row (first ∷ rows) c =
      ⊎_elim {C = there row.keys (first ∷ rows) ≡ true}
      (λ e. or_left (same row.keys first.keys) (there row.keys rows)
      (ap (λ (r : GroupRow K). same row.keys r.keys) e ∙ same_itself row.keys))
      (λ later. or_right (same row.keys first.keys) (there row.keys rows) (to_there row rows later))
      (contains_cases first rows row c)

  module _ (gs : List Aggregate) where
    abbrev at : List (Option K) → List (GroupRow K) → List (Option ℤ)
    at keys rows = total_at cmp gs keys rows

    abbrev Alike : List (GroupRow K) → List (GroupRow K) → Type 0
    Alike rows others = AddUpAlike cmp gs rows others

    abbrev with_first : Bool → GroupRow K → List (GroupRow K) → List (GroupRow K)
    with_first b row rows = cond b (row ∷ rows) rows

    abbrev with_keys : List (Option K) → List (GroupRow K) → List (GroupRow K)
    with_keys keys rows = filter (λ row. same keys row.keys) rows

    pub alike_itself : (rows : List (GroupRow K)) → Alike rows rows
    alike_itself rows = record { keys = λ keys. refl; totals = λ keys. refl }

    pub alike_trans : (xs ys zs : List (GroupRow K)) → Alike xs ys → Alike ys zs → Alike xs zs
    alike_trans xs ys zs a b = record {
      keys = λ keys. a.keys keys ∙ b.keys keys;
      totals = λ keys. a.totals keys ∙ b.totals keys;
    }

    pub alike_sym : (xs ys : List (GroupRow K)) → Alike xs ys → Alike ys xs
    alike_sym xs ys a = record {
      keys = λ keys. sym (a.keys keys);
      totals = λ keys.
          sym (a.totals keys);
    }

    pub at_append : (keys : List (Option K)) (xs ys : List (GroupRow K))
        → at keys (xs ++ ys) ≡ merged_totals gs (at keys xs) (at keys ys)
    at_append keys xs ys =
        ap (total_over gs) (filter-append (λ row. same keys row.keys) xs ys)
        ∙ over_append gs (with_keys keys xs) (with_keys keys ys)

    there_append : (keys : List (Option K)) (xs ys : List (GroupRow K))
        → there keys (xs ++ ys) ≡ (there keys xs || there keys ys)
    there_append keys xs ys = list_any-append (λ row. same keys row.keys) xs ys

    pub alike_append : (as' bs xs ys : List (GroupRow K)) → Alike as' bs → Alike xs ys
        → Alike (as' ++ xs) (bs ++ ys)
    alike_append as' bs xs ys a b = record {
      keys = λ keys. there_append keys as' xs ∙ (λ i. a.keys keys i || b.keys keys i)
          ∙ sym (there_append keys bs ys);
      totals = λ keys. at_append keys as' xs
          ∙ (λ i. merged_totals gs (a.totals keys i) (b.totals keys i))
          ∙ sym (at_append keys bs ys);
    }

    turned : (x y : GroupRow K) (rows : List (GroupRow K)) → Alike (x ∷ y ∷ rows) (y ∷ x ∷ rows)
    turned x y rows = record {
      keys = λ keys. or_swap (same keys x.keys) (same keys y.keys) (there keys rows);
      totals = λ keys. by (same keys x.keys) (same keys y.keys) (with_keys keys rows);
    }
      where
        by : (a b : Bool) (more : List (GroupRow K))
            → total_over gs (with_first a x (with_first b y more))
            ≡ total_over gs (with_first b y (with_first a x more))
        by true true more =
            sym (totals_assoc gs x.totals y.totals (total_over gs more))
            ∙ ap (λ ts. merged_totals gs ts (total_over gs more)) (totals_comm gs x.totals y.totals)
            ∙ totals_assoc gs y.totals x.totals (total_over gs more)
        by true false more = refl
        by false true more = refl
        by false false more = refl

    -- in any order
    pub alike_reordered : (xs ys : List (GroupRow K)) → IsPermutation xs ys → Alike xs ys
    alike_reordered = reordered Alike alike_itself alike_trans
        (λ x xs ys a. alike_append (x ∷ []) (x ∷ []) xs ys (alike_itself (x ∷ [])) a) turned

    -- ---- rows with keys of their own

    record Kept (xs ys : List (GroupRow K)) : Type 0 where
      keys : (keys : List (Option K)) → there keys xs ≡ there keys ys
      apart : AreApart cmp xs → AreApart cmp ys

    pub apart_reordered : (xs ys : List (GroupRow K)) → IsPermutation xs ys → AreApart cmp xs
        → AreApart cmp ys
    apart_reordered xs ys moved = (all xs ys moved).apart
      where
        all : (xs ys : List (GroupRow K)) → IsPermutation xs ys → Kept xs ys
        all = reordered Kept
            (λ rows. record { keys = λ keys. refl; apart = λ h. h })
            (λ as' bs cs a b. record {
              keys = λ keys. a.keys keys ∙ b.keys keys;
              apart = λ h. b.apart (a.apart h);
            })
            (λ x as' bs a. record {
              keys = λ keys. ap (λ b. same keys x.keys || b) (a.keys keys);
              apart = λ h. (sym (a.keys x.keys) ∙ h.0, a.apart h.1);
            })
            (λ x y rows. record {
              keys = λ keys. or_swap (same keys x.keys) (same keys y.keys) (there keys rows);
              apart = λ h. let parts = or_parts (same x.keys y.keys) (there x.keys rows) h.0 in (
                or_from (same y.keys x.keys) (there y.keys rows)
                    (not_same x.keys y.keys parts.0) h.1.0,
                (parts.1, h.1.1),
              );
            })

    pub sums_reordered : (rows sums others : List (GroupRow K)) → IsPermutation sums others
        → AreSums cmp gs rows sums → AreSums cmp gs rows others
    sums_reordered rows sums others moved h = record {
      alike = alike_trans others sums rows (alike_sym sums others
          (alike_reordered sums others moved))
          h.alike;
      whole = All-permutation (λ (row : GroupRow K). (alone gs row).totals ≡ row.totals) sums others
          moved h.whole;
      apart = apart_reordered sums others moved h.apart;
    }

    pub sums_alike : (rows others sums : List (GroupRow K)) → Alike rows others
        → AreSums cmp gs rows sums → AreSums cmp gs others sums
    sums_alike rows others sums a h = record {
      alike = alike_trans sums rows others h.alike a;
      whole = h.whole;
      apart = h.apart;
    }

    -- ---- the totals of a sum

    none_there : (keys : List (Option K)) (rows : List (GroupRow K)) → there keys rows ≡ false
        → with_keys keys rows ≡ []
    none_there keys [] h = refl
    none_there keys (row ∷ rows) h =
        let parts = or_parts (same keys row.keys) (there keys rows) h in
        ap (λ b. with_first b row (with_keys keys rows)) parts.0 ∙ none_there keys rows parts.1

    own_totals : (rows : List (GroupRow K)) → AreApart cmp rows
        → All (λ (row : GroupRow K). (alone gs row).totals ≡ row.totals) rows → (row : GroupRow K)
        → Contains rows row → at row.keys rows ≡ row.totals
    own_totals [] apart whole row c = absurd (contains_none row c)
    own_totals (first ∷ rows) apart whole row c =
        ⊎_elim {C = at row.keys (first ∷ rows) ≡ row.totals}
        (λ e. subst (λ (r : GroupRow K). at r.keys (first ∷ rows) ≡ r.totals) e
        (ap (λ b. total_over gs (with_first b first (with_keys first.keys rows)))
        (same_itself first.keys)
        ∙ ap (λ more. merged_totals gs first.totals (total_over gs more))
        (none_there first.keys rows apart.0)
        ∙ All-head (λ (r : GroupRow K). (alone gs r).totals ≡ r.totals) first rows whole))
        (λ later. ap (λ b. total_over gs (with_first b first (with_keys row.keys rows)))
        (other later)
        ∙ own_totals rows apart.1
        (All-tail (λ (r : GroupRow K). (alone gs r).totals ≡ r.totals) first rows whole) row later)
        (contains_cases first rows row c)
      where
        other : Contains rows row → same row.keys first.keys ≡ false
        other later =
            grind (arith, to_there row rows later, keys_are cmp decides row.keys first.keys, apart.0)

    -- each sum has the merged totals under its keys
    pub totals_of_sum : (rows sums : List (GroupRow K)) → AreSums cmp gs rows sums
        → (row : GroupRow K) → Contains sums row → row.totals ≡ at row.keys rows
    totals_of_sum rows sums h row c =
        sym (own_totals sums h.apart h.whole row c) ∙ h.alike.totals row.keys
