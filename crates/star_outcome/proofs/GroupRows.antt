-- The rows of a group: each has its keys, no two have the same, and they agree on what is NULL.
use Rattle.std.{proofs.Common.{◌≡◌, ◌<◌, ⊎_elim, inl, inr, ℕ, zero, suc, ◌+◌, Bool, true, false, true≢false, cond, ℤ, List, [], ◌∷◌, Option, Some, None, length, get_or, map, arith, ap, subst, sym, refl, ◌∙◌}, proofs.lemmas.List.{get_or-map, length-map, length-replicate}, proofs.lemmas.List.Sorted.{Contains-permutation, IsPermutation-sym}, proofs.lemmas.Map.Made.IsDistinct-from_AllPairs, proofs.lemmas.Option.slice_get-get_or, specs.Prelude.{IsPermutation, replicate}, specs.List.{AllByRecursion, Contains, filter}, specs.Option.is_some, specs.declared.cmp.Ordering.Ordering}
use Rattle.star_schema.specs.{Groups.{AreGroups, Entry, GroupRow as Row, IsGroup, aggregate, belongs, joined, joined_with, members, totals_from}, declared.group.Aggregate.Aggregate, declared.group.Aggregate.TheVariants.Sum, declared.group.Aggregate.TheVariants.Count, declared.group.Aggregate.TheVariants.Min, declared.group.Aggregate.TheVariants.Max, declared.group.Shape.Shape}
use Rattle.star_common.proofs.Members.{at_each, contains_cases, contains_here, contains_none}
use Rattle.star_program.specs.{declared.key.KeyValue.KeyValue, Keys.key_value_cmp, Puts.Update}
use Rattle.star_group.{specs.Held.has_puts, specs.StoreRows.AreRows, specs.Stores.Group, proofs.GroupKeys.{key_decides, masked_length, own_belongs}}
use Rattle.star_outcome.proofs.{RowOrders.AreAlike, SortedRows.AreApart, SortedRows.keys_of_row}

-- ---- apart

pub rows_apart : (d : Group) (puts : List Update) (rows : List (Row KeyValue)) → AreRows d puts rows
    → AreApart rows
rows_apart d puts [] are =
    IsDistinct-from_AllPairs key_decides [] (λ i j k before within. absurd (omega (arith, within)))
rows_apart d puts (row ∷ rows) are =
    IsDistinct-from_AllPairs key_decides (map keys_of_row (row ∷ rows)) apart
  where
    apart : (i j : ℕ) (k : List (Option KeyValue)) → i < j
        → j < length (map keys_of_row (row ∷ rows))
        → get_or (map keys_of_row (row ∷ rows)) i k ≡ get_or (map keys_of_row (row ∷ rows)) j k → ⊥
    apart i j k before within e =
        let few : j < length (row ∷ rows) =
        omega (arith, within, length-map (row ∷ rows) keys_of_row) in
        let first = get_or-map keys_of_row (row ∷ rows) i row k (omega arith) in
        let second = get_or-map keys_of_row (row ∷ rows) j row k few in
        let one = are.once i j (get_or (row ∷ rows) i row) (get_or (row ∷ rows) j row)
        (slice_get-get_or (row ∷ rows) i row (omega arith))
        (slice_get-get_or (row ∷ rows) j row few) (sym first ∙ e ∙ second) in
        omega (arith, one)

pub groups_moved : {K : Type 0} (cmp : K → K → Ordering) (s : Shape) (count : ℕ)
    (gs : List Aggregate) (rows : List (Entry K)) (old new : List (Row K)) → IsPermutation old new
    → AreGroups cmp s count gs rows old → AreGroups cmp s count gs rows new
groups_moved cmp s count gs rows old new moved are = record {
  each = λ group c. are.each group
      (Contains-permutation new old group (IsPermutation-sym old new moved) c);
  all = λ keys is. let found = are.all keys is in
      (found.0, Contains-permutation old new found.0 moved found.1, found.2);
}

-- ---- NULL

some_joined : (f : ℤ → ℤ → ℤ) (n : ℤ) (ns : List ℤ) → is_some (joined f (n ∷ ns)) ≡ true
some_joined f n ns = by (joined f ns)
  where
    by : (o : Option ℤ) → is_some (joined_with f n o) ≡ true
    by None = refl
    by (Some z) = refl

some_aggregate : (g : Aggregate) (n : ℤ) (ns : List ℤ) → is_some (aggregate g (n ∷ ns)) ≡ true
some_aggregate Sum n ns = some_joined _ n ns
some_aggregate Count n ns = refl
some_aggregate Min n ns = some_joined _ n ns
some_aggregate Max n ns = some_joined _ n ns

-- an aggregate over some puts is NULL or not whatever they are
same_nulls : (gs : List Aggregate) (p k : ℕ) (us vs : List Update) → has_puts us ≡ has_puts vs
    → is_some (get_or (totals_from gs p us) k None) ≡ is_some (get_or (totals_from gs p vs) k None)
same_nulls gs p k [] [] e = refl
same_nulls gs p k [] (v ∷ vs) e = absurd (true≢false (sym e))
same_nulls gs p k (u ∷ us) [] e = absurd (true≢false e)
same_nulls [] p k (u ∷ us) (v ∷ vs) e = refl
same_nulls (g ∷ gs) p zero (u ∷ us) (v ∷ vs) e = some_aggregate g _ _ ∙ sym (some_aggregate g _ _)
same_nulls (g ∷ gs) p (suc k) (u ∷ us) (v ∷ vs) e = same_nulls gs (p + 1) k (u ∷ us) (v ∷ vs) e

has_passing : (p : Update → Bool) (us : List Update) (u : Update) → Contains us u → p u ≡ true
    → has_puts (filter p us) ≡ true
has_passing p [] u c e = absurd (contains_none u c)
has_passing p (v ∷ us) u c e = by (p v) refl (λ later. has_passing p us u later e)
  where
    by : (b : Bool) → p v ≡ b → (Contains us u → has_puts (filter p us) ≡ true)
        → has_puts (cond b (v ∷ filter p us) (filter p us)) ≡ true
    by true at more = refl
    by false at more = ⊎_elim {C = has_puts (filter p us) ≡ true}
        (λ same. absurd (true≢false (sym e ∙ ap p (sym same) ∙ at))) more (contains_cases v us u c)

-- a group has rows where there are some at all
has_members : (d : Group) (us : List Update) (keys : List (Option KeyValue))
    → AllByRecursion (λ u. length u.keys ≡ d.count) us → IsGroup d.shape d.count us keys
    → has_puts (members key_value_cmp keys us) ≡ has_puts us
has_members d [] keys fit is = refl
has_members d (u ∷ us) keys fit (shown, inl is) =
    has_passing (λ v. belongs key_value_cmp keys v.keys) (u ∷ us) is.0 is.1
    (own_belongs d keys is.0 (inl (shown, is.2)))
has_members d (u ∷ us) keys fit (shown, inr all) =
    has_passing (λ v. belongs key_value_cmp keys v.keys) (u ∷ us) u (contains_here u us)
    (own_belongs d keys u (inr (subst (λ n. keys ≡ replicate n None) (sym fit.0) all)))

-- the keys of a group
group_wide : (d : Group) (us : List Update) (keys : List (Option KeyValue))
    → AllByRecursion (λ u. length u.keys ≡ d.count) us → IsGroup d.shape d.count us keys
    → length keys ≡ d.count
group_wide d us keys fit (shown, inl is) =
    masked_length keys is.0.keys is.2 ∙ at_each (λ u. length u.keys ≡ d.count) us is.0 fit is.1
group_wide d us keys fit (shown, inr all) = ap length all ∙ length-replicate d.count None

pub groups_alike : (d : Group) (puts : List Update) (rows : List (Row KeyValue))
    → AllByRecursion (λ u. length u.keys ≡ d.count) puts
    → AreGroups key_value_cmp d.shape d.count d.aggregates puts rows
    → (a b : Row KeyValue) → Contains rows a → Contains rows b → AreAlike d.count a b
groups_alike d puts rows fit are a b in_a in_b =
    let group_a = are.each a in_a in
    let group_b = are.each b in_b in
    let same = has_members d puts a.keys fit group_a.0
    ∙ sym (has_members d puts b.keys fit group_b.0) in
    record {
      first = group_wide d puts a.keys fit group_a.0;
      second = group_wide d puts b.keys fit group_b.0;
      nulls = λ index. ap (λ ts. is_some (get_or ts index None)) group_a.1
          ∙ same_nulls d.aggregates 0 index (members key_value_cmp a.keys puts)
          (members key_value_cmp b.keys puts) same
          ∙ sym (ap (λ ts. is_some (get_or ts index None)) group_b.1);
    }
