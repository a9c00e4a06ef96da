-- Each list of puts has a content.
use Rattle.star_group.proofs.{Common.{◌≡◌, ℕ, zero, suc, ◌+◌, ◌<◌, Bool, true, false, ℤ, pos, List, [], ◌∷◌, Some, length, map, get_or, cond, ap, sym, ◌∙◌, subst, refl, arith, true≢false, list_any, AllByRecursion, unwrap_or, false_from_ne_true, list_any-from_Any, list_any-from_Contains, from_contains_map, of_each, Aggregate, Count, aggregate, joined, numbers_for, KeyValue, same_keys, Update, aggregate_at, Group, IsContent, key_lists, put_number, puts_of}, JoinedParts.{joined_more, more}, KeyLists.{keys_decide, keys_equiv, some_put}}
use Rattle.std.{specs.List.IsDistinct, proofs.lemmas.Int.ints}

-- ---- each key list once

abbrev once_lists : List Update → List (List KeyValue)
once_lists [] = []
once_lists (u ∷ us) = cond (list_any (same_keys u.keys) (once_lists us)) (once_lists us)
    (u.keys ∷ once_lists us)

none_same : (ks : List KeyValue) (kss : List (List KeyValue)) → list_any (same_keys ks) kss ≡ false
    → AllByRecursion (λ ls. same_keys ks ls ≡ false) kss
none_same ks kss h = of_each (λ ls. same_keys ks ls ≡ false) kss
    (λ ls c. false_from_ne_true (same_keys ks ls)
    (λ e. true≢false (sym (list_any-from_Any (same_keys ks) kss (c.0, ls, c.1, c.2, e)) ∙ h)))

once_distinct : (us : List Update) → IsDistinct same_keys (once_lists us)
unfolding IsDistinct
once_distinct [] = tt
once_distinct (u ∷ us) = by (list_any (same_keys u.keys) (once_lists us)) refl (once_distinct us)
  where
    by : (b : Bool) → list_any (same_keys u.keys) (once_lists us) ≡ b
        → IsDistinct same_keys (once_lists us)
        → IsDistinct same_keys (cond b (once_lists us) (u.keys ∷ once_lists us))
    by true e rest = rest
    by false e rest = (none_same u.keys (once_lists us) e, rest)

once_are : (us : List Update) (ks : List KeyValue)
    → list_any (same_keys ks) (once_lists us) ≡ list_any (same_keys ks) (key_lists us)
once_are [] ks = refl
once_are (u ∷ us) ks = grind (arith, once_are us ks, same_keys, keys_decide)

-- ---- and its aggregates

abbrev numbers_from : List Aggregate → ℕ → List Update → List ℤ
numbers_from [] index us = []
numbers_from (g ∷ gs) index us =
    unwrap_or (aggregate g (numbers_for index us)) (pos 0) ∷ numbers_from gs (index + 1) us

number_from : (gs : List Aggregate) (p : ℕ) (us : List Update) (a : ℕ) → a < length gs
    → get_or (numbers_from gs p us) a (pos 0)
    ≡ unwrap_or (aggregate (get_or gs a Count) (numbers_for (p + a) us)) (pos 0)
number_from [] p us a h = absurd (omega (arith, h))
number_from (g ∷ gs) p us zero h = let here : p ≡ p + 0 = omega arith in
    ap (λ n. unwrap_or (aggregate g (numbers_for n us)) (pos 0)) here
number_from (g ∷ gs) p us (suc a) h = grind (arith, number_from gs (p + 1) us a (omega (arith, h)))

some_joined : (f : ℤ → ℤ → ℤ) (z : ℤ) (zs : List ℤ)
    → joined f (z ∷ zs) ≡ Some (unwrap_or (joined f (z ∷ zs)) (pos 0))
some_joined f z zs = grind (arith, ints, joined_more, joined, more)

some_total : (g : Aggregate) (z : ℤ) (zs : List ℤ)
    → aggregate g (z ∷ zs) ≡ Some (unwrap_or (aggregate g (z ∷ zs)) (pos 0))
some_total it z zs = grind (arith, ints, some_joined)

module _ (d : Group) (us : List Update) where
  abbrev entry : List KeyValue → Update
  entry ks = record { keys = ks; values = numbers_from d.aggregates 0 (puts_of ks us) }

  lists_of : (kss : List (List KeyValue)) → key_lists (map entry kss) ≡ kss
  lists_of [] = refl
  lists_of (ks ∷ kss) = ap (λ r. ks ∷ r) (lists_of kss)

  entry_total : (ks : List KeyValue) → list_any (same_keys ks) (key_lists us) ≡ true → (index : ℕ)
      → index < length d.aggregates
      → aggregate (aggregate_at d.aggregates index) (numbers_for index (puts_of ks us))
      ≡ Some (put_number index (entry ks))
  entry_total ks there index h = grind (arith, some_put, some_total, number_from)

  abbrev Told : Update → Type 0
  Told e = (index : ℕ) → index < length d.aggregates
      → aggregate (aggregate_at d.aggregates index) (numbers_for index (puts_of e.keys us))
      ≡ Some (put_number index e)

  abbrev pub made : List Update
  made = map entry (once_lists us)

  pub made_content : IsContent d us made
  made_content = record {
    keys = λ ks. ap (list_any (same_keys ks)) (lists_of (once_lists us)) ∙ once_are us ks;
    once = subst (IsDistinct same_keys) (sym (lists_of (once_lists us))) (once_distinct us);
    numbers = of_each Told made (λ e c.
        let ks = from_contains_map entry (once_lists us) e c in
        subst Told ks.2 (entry_total ks.0
        (sym (once_are us ks.0) ∙ list_any-from_Contains keys_equiv ks.0 (once_lists us)
        ks.1)));
  }
