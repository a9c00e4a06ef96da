-- A content with one put more is a content of the puts and it.
use Rattle.star_group.{proofs.Common.{◌≡◌, ℕ, ◌<◌, Bool, true, false, ◌||◌, ℤ, List, [], ◌∷◌, Some, None, length, cond, ap, sym, ◌∙◌, subst, refl, true≢false, list_any, AllByRecursion, Aggregate, aggregate, numbers_for, KeyValue, same_keys, step, IsWithPut, Update, aggregate_at, Group, false_from_ne_true, IsContent, key_lists, put_number, puts_of, if◌then◌else◌}, proofs.KeyLists.{keys_decide, keys_equiv, listed, some_put}, proofs.Filters.filter_none, proofs.ContentByKeys.all_more, proofs.Totals.some_aggregate, specs.Cells.held, specs.OneMore.group_aggregate}
use Rattle.std.specs.List.{IsDistinct}

-- ---- look-ups

-- one entry more
first_number : (keys : List KeyValue) (index : ℕ) (e : Update) (es : List Update) (b : Bool)
    → same_keys keys e.keys ≡ b → group_aggregate keys index (e ∷ es)
    ≡ (if b then Some (put_number index e) else group_aggregate keys index es)
unfolding group_aggregate
first_number keys index e es b h =
    ap (λ c. if c then Some (put_number index e) else group_aggregate keys index es) h

absent : (keys : List KeyValue) (index : ℕ) (es : List Update)
    → list_any (same_keys keys) (key_lists es) ≡ false → group_aggregate keys index es ≡ None
unfolding group_aggregate
absent keys index [] h = refl
absent keys index (e ∷ es) h = by (same_keys keys e.keys) h (absent keys index es)
  where
    by : (b : Bool) → (b || list_any (same_keys keys) (key_lists es)) ≡ false
        → (list_any (same_keys keys) (key_lists es) ≡ false → group_aggregate keys index es ≡ None)
        → (if b then Some (put_number index e) else group_aggregate keys index es) ≡ None
    by true p later = absurd (true≢false p)
    by false p later = later p

no_puts : (keys : List KeyValue) (us : List Update)
    → list_any (same_keys keys) (key_lists us) ≡ false → puts_of keys us ≡ []
no_puts keys us h = filter_none us (λ u c. false_from_ne_true (same_keys keys u.keys) (λ e.
    true≢false (sym (ap (λ ks. list_any (same_keys ks) (key_lists us))
    ((keys_decide keys u.keys).0 e) ∙ listed us u c) ∙ h)))

-- what holds of each entry's numbers holds of the number that is found
found : (Told : List KeyValue → ℤ → Type 0) (keys : List KeyValue) (index : ℕ) (es : List Update)
    → list_any (same_keys keys) (key_lists es) ≡ true
    → AllByRecursion (λ e. Told e.keys (put_number index e)) es
    → (z : ℤ) × (group_aggregate keys index es ≡ Some z) × Told keys z
unfolding group_aggregate
found Told keys index [] h told = absurd (true≢false (sym h))
found Told keys index (e ∷ es) h told =
    by (same_keys keys e.keys) refl h (λ p. found Told keys index es p told.1)
  where
    by : (b : Bool) → same_keys keys e.keys ≡ b
        → (b || list_any (same_keys keys) (key_lists es)) ≡ true
        → (list_any (same_keys keys) (key_lists es) ≡ true
        → (z : ℤ) × (group_aggregate keys index es ≡ Some z) × Told keys z)
        → (z : ℤ) × ((if b then Some (put_number index e) else group_aggregate keys index es)
        ≡ Some z)
        × Told keys z
    by true p there later = (
      put_number index e,
      refl,
      subst (λ ks. Told ks (put_number index e)) (sym ((keys_decide keys e.keys).0 p)) told.0,
    )
    by false p there later = later there

-- each entry is found by its key list
own_numbers : (index : ℕ) (es : List Update) → IsDistinct same_keys (key_lists es)
    → AllByRecursion (λ e. group_aggregate e.keys index es ≡ Some (put_number index e)) es
unfolding IsDistinct
own_numbers index [] once = tt
own_numbers index (e ∷ es) once = (
  first_number e.keys index e es true (keys_equiv.refl e.keys),
  behind es once.0 (own_numbers index es once.1),
)
  where
    behind : (rest : List Update)
        → AllByRecursion (λ ks. same_keys e.keys ks ≡ false) (key_lists rest)
        → AllByRecursion (λ f. group_aggregate f.keys index es ≡ Some (put_number index f)) rest
        → AllByRecursion (λ f. group_aggregate f.keys index (e ∷ es) ≡ Some (put_number index f))
        rest
    behind [] apart told = tt
    behind (f ∷ rest) apart told = (
      first_number f.keys index e es false (other (same_keys f.keys e.keys) refl) ∙ told.0,
      behind rest apart.1 told.1,
    )
      where
        other : (b : Bool) → same_keys f.keys e.keys ≡ b → same_keys f.keys e.keys ≡ false
        other true p = absurd
            (true≢false
            (sym ((keys_decide e.keys f.keys).1 (sym ((keys_decide f.keys e.keys).0 p))) ∙ apart.0))
        other false p = p

-- ---- what a content has is held

held_aggregate : (g : Aggregate) (vs : List ℤ) (z : ℤ) → held g vs ≡ Some z
    → aggregate g vs ≡ Some z
unfolding held
held_aggregate g [] z e = absurd (cc)
held_aggregate g (v ∷ vs) z e = sym (some_aggregate g v vs) ∙ e

module _ (d : Group) (us es : List Update) (is : IsContent d us es) (index : ℕ)
    (declared : index < length d.aggregates) where
  number_is : (keys : List KeyValue) → group_aggregate keys index es
      ≡ held (aggregate_at d.aggregates index) (numbers_for index (puts_of keys us))
  unfolding held
  number_is keys = by (list_any (same_keys keys) (key_lists es)) refl
    where
      by : (b : Bool) → list_any (same_keys keys) (key_lists es) ≡ b → group_aggregate keys index es
          ≡ held (aggregate_at d.aggregates index) (numbers_for index (puts_of keys us))
      by false e = absent keys index es e
          ∙ ap (λ ps. held (aggregate_at d.aggregates index) (numbers_for index ps))
          (sym (no_puts keys us (sym (is.keys keys) ∙ e)))
      by true e =
          let some = some_put keys us (sym (is.keys keys) ∙ e) in
          let at = found (λ ks z. aggregate (aggregate_at d.aggregates index)
          (numbers_for index (puts_of ks us)) ≡ Some z) keys index es e
          (all_more _ _ (λ f told. told index declared) es is.numbers) in
          at.1 ∙ sym at.2
          ∙ ap (λ ps. aggregate (aggregate_at d.aggregates index) (numbers_for index ps)) some.2
          ∙ sym (some_aggregate (aggregate_at d.aggregates index) _ _)
          ∙ ap (λ ps. held (aggregate_at d.aggregates index) (numbers_for index ps)) (sym some.2)

-- ---- one put more

held_more : (g : Aggregate) (v : ℤ) (vs : List ℤ) → Some (step g v (held g vs)) ≡ held g (v ∷ vs)
unfolding held
held_more g v vs = refl

pub content_more : (d : Group) (us es after : List Update) (u : Update) → IsContent d us es
    → IsWithPut d u es after → IsContent d (u ∷ us) after
content_more d us es after u is more = record {
  keys = λ keys. more.keys keys ∙ ap (λ b. same_keys keys u.keys || b) (is.keys keys);
  once = more.once;
  numbers = all_numbers after (λ index. own_numbers index after more.once);
}
  where
    value : (keys : List KeyValue) (index : ℕ) → index < length d.aggregates
        → group_aggregate keys index after
        ≡ held (aggregate_at d.aggregates index) (numbers_for index (puts_of keys (u ∷ us)))
    value keys index declared = by (same_keys keys u.keys) refl
      where
        by : (b : Bool) → same_keys keys u.keys ≡ b → group_aggregate keys index after
            ≡ held (aggregate_at d.aggregates index)
            (numbers_for index (cond (same_keys keys u.keys) (u ∷ puts_of keys us)
            (puts_of keys us)))
        by false p = more.others keys p index declared
            ∙ number_is d us es is index declared keys
            ∙ ap (λ b. held (aggregate_at d.aggregates index)
            (numbers_for index (cond b (u ∷ puts_of keys us) (puts_of keys us)))) (sym p)
        by true p = ap (λ ks. group_aggregate ks index after) ((keys_decide keys u.keys).0 p)
            ∙ more.own index declared
            ∙ ap (λ o. Some (step (aggregate_at d.aggregates index) (put_number index u) o))
            (ap (λ ks. group_aggregate ks index es) (sym ((keys_decide keys u.keys).0 p))
            ∙ number_is d us es is index declared keys)
            ∙ held_more (aggregate_at d.aggregates index) (put_number index u)
            (numbers_for index (puts_of keys us))
            ∙ ap (λ b. held (aggregate_at d.aggregates index)
            (numbers_for index (cond b (u ∷ puts_of keys us) (puts_of keys us)))) (sym p)

    all_numbers : (rest : List Update)
        → ((index : ℕ) → AllByRecursion
        (λ e. group_aggregate e.keys index after ≡ Some (put_number index e)) rest)
        → AllByRecursion (λ e. (index : ℕ) → index < length d.aggregates
        → aggregate (aggregate_at d.aggregates index) (numbers_for index (puts_of e.keys (u ∷ us)))
        ≡ Some (put_number index e)) rest
    all_numbers [] own = tt
    all_numbers (e ∷ rest) own = (
      λ index declared. held_aggregate (aggregate_at d.aggregates index)
          (numbers_for index (puts_of e.keys (u ∷ us))) (put_number index e)
          (sym (value e.keys index declared) ∙ (own index).0),
      all_numbers rest (λ index. (own index).1),
    )
