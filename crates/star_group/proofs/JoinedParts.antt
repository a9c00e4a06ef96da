-- Numbers of puts, joined by an operation: by key lists first, or all at once.
use Rattle.star_group.proofs.{Common.{◌≡◌, Bool, true, false, ◌&&◌, ◌||◌, ℤ, List, [], ◌∷◌, Option, Some, None, map, cond, ap, sym, ◌∙◌, refl, true≢false, list_any, AllByRecursion, IsDistinct, filter, and-false, list_any_none, IsDistinct-head, IsDistinct-tail, joined, KeyValue, same_keys, Update, key_lists}, KeyLists.{keys_decide, keys_equiv}, Totals.{joined_none, joined_some}}
use Rattle.std.proofs.{Common.arith, lemmas.Grind.common_steps, lemmas.Int.ints}

-- tests that pick out the puts with a key list, and those with one of others
module _ (k : List KeyValue) (kss : List (List KeyValue))
    (distinct : AllByRecursion (λ y. same_keys k y ≡ false) kss) (ks : List KeyValue) where
  pub no_two : (same_keys k ks && list_any (same_keys ks) kss) ≡ false
  no_two = grind (arith, common_steps, same_keys, keys_decide, list_any_none)

  pub flipped : (same_keys ks k || list_any (same_keys ks) kss)
      ≡ (same_keys k ks || list_any (same_keys ks) kss)
  flipped = ap (λ b. b || list_any (same_keys ks) kss) (keys_equiv.symm ks k)

module _ (f : ℤ → ℤ → ℤ) where
  abbrev pub more : ℤ → Option ℤ → Option ℤ
  more z None = Some z
  more z (Some y) = Some (f z y)

  pub joined_more : (z : ℤ) (zs : List ℤ) → joined f (z ∷ zs) ≡ more z (joined f zs)
  joined_more z zs = grind (arith, ints, joined, joined_none, joined_some)

  abbrev pub both : Option ℤ → Option ℤ → Option ℤ
  both None r = r
  both (Some x) r = more x r

  -- the numbers of the puts that pass
  abbrev pub over : (Update → ℤ) → (Update → Bool) → List Update → Option ℤ
  over number t us = joined f (map number (filter t us))

  pub over_more : (number : Update → ℤ) (t : Update → Bool) (u : Update) (us : List Update)
      → over number t (u ∷ us) ≡ cond (t u) (more (number u) (over number t us)) (over number t us)
  over_more number t u us = grind (arith, ints, joined, joined_more)

  none_over : (number : Update → ℤ) (us : List Update) → over number (λ u. false) us ≡ None
  none_over number [] = refl
  none_over number (u ∷ us) = none_over number us

  covered : (number : Update → ℤ) (t p : Update → Bool) (us : List Update)
      → AllByRecursion (λ u. t u ≡ true) us → over number (λ u. t u && p u) us ≡ over number p us
  covered number t p [] h = refl
  covered number t p (u ∷ us) h = grind (arith, ints, covered number t p us h.1, over_more)

-- an operation that joins numbers in any order
module _ (f : ℤ → ℤ → ℤ) (comm : (x y : ℤ) → f x y ≡ f y x)
    (assoc : (x y z : ℤ) → f (f x y) z ≡ f x (f y z)) where
  -- the puts that pass one of two tests, where none passes both
  apart : (number : Update → ℤ) (a b c : Update → Bool) (us : List Update)
      → ((u : Update) → c u ≡ (a u || b u)) → ((u : Update) → (a u && b u) ≡ false)
      → over f number c us ≡ both f (over f number a us) (over f number b us)
  apart number a b c [] either no_both = refl
  apart number a b c (u ∷ us) either no_both =
      grind (arith, common_steps, ints, apart number a b c us either no_both, over_more, true≢false)

  module _ (number : Update → ℤ) (p : List KeyValue → Bool) (us : List Update) where
    -- the puts of each key list that passes
    abbrev whole : List (List KeyValue) → Option ℤ
    whole [] = None
    whole (k ∷ kss) = cond (p k) (both f (over f number (λ u. same_keys k u.keys) us) (whole kss))
        (whole kss)

    by_key_lists : (kss : List (List KeyValue)) → IsDistinct same_keys kss
        → whole kss ≡ over f number (λ u. list_any (same_keys u.keys) kss && p u.keys) us
    by_key_lists [] h = sym (none_over f number us)
    by_key_lists (k ∷ kss) h = by (p k) refl (by_key_lists kss (IsDistinct-tail same_keys k kss h))
      where
        first : AllByRecursion (λ y. same_keys k y ≡ false) kss
        first = IsDistinct-head same_keys k kss h

        chosen : p k ≡ true → (ks : List KeyValue) (b : Bool) → same_keys k ks ≡ b
            → ((b || list_any (same_keys ks) kss) && p ks)
            ≡ (b || (list_any (same_keys ks) kss && p ks))
        chosen passes ks true e = ap p (sym ((keys_decide k ks).0 e)) ∙ passes
        chosen passes ks false e = refl

        left_out : p k ≡ false → (ks : List KeyValue) (b : Bool) → same_keys k ks ≡ b
            → ((b || list_any (same_keys ks) kss) && p ks) ≡ (list_any (same_keys ks) kss && p ks)
        left_out fails ks true e = let no : p ks ≡ false =
            ap p (sym ((keys_decide k ks).0 e)) ∙ fails in
            no ∙ sym (and-false (list_any (same_keys ks) kss))
            ∙ ap (λ b. list_any (same_keys ks) kss && b) (sym no)
        left_out fails ks false e = refl

        apart_from : (ks : List KeyValue) (b c : Bool) → (b && c) ≡ false
            → (b && (c && p ks)) ≡ false
        apart_from ks true c e = ap (λ x. x && p ks) e
        apart_from ks false c e = refl

        by : (b : Bool) → p k ≡ b
            → whole kss ≡ over f number (λ u. list_any (same_keys u.keys) kss && p u.keys) us
            → cond b (both f (over f number (λ u. same_keys k u.keys) us) (whole kss)) (whole kss)
            ≡ over f number (λ u. (same_keys u.keys k || list_any (same_keys u.keys) kss)
            && p u.keys) us
        by true e rest = ap (both f (over f number (λ u. same_keys k u.keys) us)) rest
            ∙ sym (apart number (λ u. same_keys k u.keys)
            (λ u. list_any (same_keys u.keys) kss && p u.keys)
            (λ u. (same_keys u.keys k || list_any (same_keys u.keys) kss) && p u.keys) us
            (λ u. ap (λ b. b && p u.keys) (flipped k kss first u.keys)
            ∙ chosen e u.keys (same_keys k u.keys) refl)
            (λ u. apart_from u.keys (same_keys k u.keys) (list_any (same_keys u.keys) kss)
            (no_two k kss first u.keys)))
        by false e rest = rest ∙ ap (λ t. over f number t us)
            (λ i u. sym (ap (λ b. b && p u.keys) (flipped k kss first u.keys)
            ∙ left_out e u.keys (same_keys k u.keys) refl) i)

    of_entries : (num : Update → ℤ) (es : List Update)
        → AllByRecursion (λ e. over f number (λ u. same_keys e.keys u.keys) us ≡ Some (num e)) es
        → over f num (λ e. p e.keys) es ≡ whole (key_lists es)
    of_entries num [] h = refl
    of_entries num (e ∷ es) h = grind (arith, ints, of_entries num es h.1, over_more, same_keys)

    -- entries that have the puts of their key lists joined, joined, are all puts joined
    pub joined_by_parts : (num : Update → ℤ) (es : List Update)
        → IsDistinct same_keys (key_lists es)
        → AllByRecursion (λ u. list_any (same_keys u.keys) (key_lists es) ≡ true) us
        → AllByRecursion (λ e. over f number (λ u. same_keys e.keys u.keys) us ≡ Some (num e)) es
        → over f num (λ e. p e.keys) es ≡ over f number (λ u. p u.keys) us
    joined_by_parts num es once all each = of_entries num es each ∙ by_key_lists (key_lists es) once
        ∙ covered f number (λ u. list_any (same_keys u.keys) (key_lists es)) (λ u. p u.keys) us all
