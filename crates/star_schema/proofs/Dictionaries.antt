-- Each column of texts has one dictionary.
use Rattle.std.{proofs.Common.{◌≡◌, ◌⊎◌, ◌↔◌, ℕ, ◌+◌, ◌≤◌, List, [], ◌∷◌, length, refl, sym, ap, ◌∙◌, arith, inl, inr, ⊎_elim, subst}, specs.List.{AllByRecursion, Contains}, specs.List.Sorted.IsStrictlySortedBy, specs.Ordering.{match_ordering, ordering_reverse}, specs.declared.cmp.Ordering.Ordering, specs.declared.cmp.Ordering.TheVariants.{Less, Equal, Greater}, proofs.lemmas.Cmp.{nat_list_cmp_total, tied_itself}, proofs.lemmas.Map.Lookups.exact_bytes}
use Rattle.star_common.proofs.Members.{at_each, contains_cases, contains_here, contains_later, contains_none, of_each}
use Rattle.star_schema.specs.Dictionary.{text_cmp, with_text, dictionary_of, IsDictionary}

-- ---- one more text
in_with_text : (t : List ℕ) (ds : List (List ℕ)) (y : List ℕ) → Contains (with_text t ds) y
    → (t ≡ y) ⊎ Contains ds y
in_with_text t [] y h = contains_cases t [] y h
in_with_text t (d ∷ ds) y h = go (text_cmp t d) (in_with_text t ds y) h
  where
    go : (o : Ordering) → (Contains (with_text t ds) y → (t ≡ y) ⊎ Contains ds y)
        → Contains (match_ordering o (t ∷ d ∷ ds) (d ∷ ds) (d ∷ with_text t ds)) y
        → (t ≡ y) ⊎ Contains (d ∷ ds) y
    go Less ih h = contains_cases t (d ∷ ds) y h
    go Equal ih h = inr h
    go Greater ih h =
        ⊎_elim {C = (t ≡ y) ⊎ Contains (d ∷ ds) y}
        (λ e. inr (subst (λ z. Contains (d ∷ ds) z) e (contains_here d ds)))
        (λ rest. ⊎_elim {C = (t ≡ y) ⊎ Contains (d ∷ ds) y}
        (λ e. inl e) (λ there. inr (contains_later d ds y there)) (ih rest))
        (contains_cases d (with_text t ds) y h)

with_text_has : (t : List ℕ) (ds : List (List ℕ)) → Contains (with_text t ds) t
with_text_has t [] = contains_here t []
with_text_has t (d ∷ ds) = go (text_cmp t d) refl (with_text_has t ds)
  where
    go : (o : Ordering) → text_cmp t d ≡ o → Contains (with_text t ds) t
        → Contains (match_ordering o (t ∷ d ∷ ds) (d ∷ ds) (d ∷ with_text t ds)) t
    go Less e ih = contains_here t (d ∷ ds)
    go Equal e ih = subst (λ z. Contains (d ∷ ds) z) (sym (exact_bytes t d e)) (contains_here d ds)
    go Greater e ih = contains_later d (with_text t ds) t ih

with_text_keeps : (t : List ℕ) (ds : List (List ℕ)) (y : List ℕ) → Contains ds y
    → Contains (with_text t ds) y
with_text_keeps t [] y h = absurd (contains_none y h)
with_text_keeps t (d ∷ ds) y h = go (text_cmp t d) (with_text_keeps t ds y)
  where
    go : (o : Ordering) → (Contains ds y → Contains (with_text t ds) y)
        → Contains (match_ordering o (t ∷ d ∷ ds) (d ∷ ds) (d ∷ with_text t ds)) y
    go Less ih = contains_later t (d ∷ ds) y h
    go Equal ih = h
    go Greater ih =
        ⊎_elim {C = Contains (d ∷ with_text t ds) y}
        (λ e. subst (λ z. Contains (d ∷ with_text t ds) z) e (contains_here d (with_text t ds)))
        (λ there. contains_later d (with_text t ds) y (ih there)) (contains_cases d ds y h)

sorted_with_text : (t : List ℕ) (ds : List (List ℕ)) → IsStrictlySortedBy text_cmp ds
    → IsStrictlySortedBy text_cmp (with_text t ds)
unfolding IsStrictlySortedBy
sorted_with_text t [] sorted = (tt, tt)
sorted_with_text t (d ∷ ds) sorted = go (text_cmp t d) refl (sorted_with_text t ds sorted.1)
  where
    go : (o : Ordering) → text_cmp t d ≡ o → IsStrictlySortedBy text_cmp (with_text t ds)
        → IsStrictlySortedBy text_cmp (match_ordering o (t ∷ d ∷ ds) (d ∷ ds) (d ∷ with_text t ds))
    go Less e ih = (
      (
        e,
        of_each (λ y. text_cmp t y ≡ Less) ds
            (λ y h. nat_list_cmp_total.trans t d y e
            (at_each (λ z. text_cmp d z ≡ Less) ds y sorted.0 h)),
      ),
      sorted,
    )
    go Equal e ih = sorted
    go Greater e ih =
        let above : text_cmp d t ≡ Less =
        nat_list_cmp_total.antisymm d t ∙ ap ordering_reverse e in (
          of_each (λ y. text_cmp d y ≡ Less) (with_text t ds)
              (λ y h. ⊎_elim {C = text_cmp d y ≡ Less} (λ same. ap (text_cmp d) (sym same) ∙ above)
              (λ there. at_each (λ z. text_cmp d z ≡ Less) ds y sorted.0 there)
              (in_with_text t ds y h)),
          ih,
        )

-- ---- the dictionary
pub IsDictionary-dictionary_of : (ts : List (List ℕ)) → IsDictionary (dictionary_of ts) ts
unfolding dictionary_of IsStrictlySortedBy
IsDictionary-dictionary_of [] = record { sorted = tt; holds = λ y. (λ h. h, λ h. h) }
IsDictionary-dictionary_of (t ∷ ts) =
    let rest = IsDictionary-dictionary_of ts in
    let ds = dictionary_of ts in
    record {
      sorted = sorted_with_text t ds rest.sorted;
      holds = λ y. (
        λ h. ⊎_elim {C = Contains (t ∷ ts) y}
            (λ e. subst (λ z. Contains (t ∷ ts) z) e (contains_here t ts))
            (λ there. contains_later t ts y ((rest.holds y).0 there)) (in_with_text t ds y h),
        λ h. ⊎_elim {C = Contains (with_text t ds) y}
            (λ e. subst (λ z. Contains (with_text t ds) z) e (with_text_has t ds))
            (λ there. with_text_keeps t ds y ((rest.holds y).1 there)) (contains_cases t ts y h),
      );
    }

-- a text is not less than itself
not_less_itself : (t : List ℕ) → text_cmp t t ≡ Less → ⊥
not_less_itself t e = let tied : text_cmp t t ≡ Equal = tied_itself nat_list_cmp_total t in cc

-- texts in order that are the same texts are the same list
same_sorted : (xs ys : List (List ℕ)) → IsStrictlySortedBy text_cmp xs
    → IsStrictlySortedBy text_cmp ys → ((t : List ℕ) → Contains xs t ↔ Contains ys t) → xs ≡ ys
unfolding IsStrictlySortedBy
same_sorted [] [] sa sb same = refl
same_sorted [] (b ∷ ys) sa sb same = absurd (contains_none b ((same b).1 (contains_here b ys)))
same_sorted (a ∷ xs) [] sa sb same = absurd (contains_none a ((same a).0 (contains_here a xs)))
same_sorted (a ∷ xs) (b ∷ ys) sa sb same =
    let heads : a ≡ b = first in
    λ i. heads i
    ∷ same_sorted xs ys sa.1 sb.1
    (λ t. (
      λ h. rest_of a xs b ys t heads sa.0 h
          ((same t).0 (contains_later a xs t h)),
      λ h. rest_of b ys a xs t (sym heads) sb.0 h
          ((same t).1 (contains_later b ys t h)),
    )) i
  where
    -- one that stands behind the first of one list stands behind the first of the other, since the
    -- firsts are equal
    rest_of : (x : List ℕ) (xs : List (List ℕ)) (y : List ℕ) (ys : List (List ℕ)) (t : List ℕ)
        → x ≡ y → AllByRecursion (λ z. text_cmp x z ≡ Less) xs → Contains xs t → Contains (y ∷ ys) t
        → Contains ys t
    rest_of x xs y ys t same above h there =
        ⊎_elim {C = Contains ys t}
        (λ e. absurd
        (not_less_itself t
        (ap (λ z. text_cmp z t) (sym (same ∙ e))
        ∙ at_each (λ z. text_cmp x z ≡ Less) xs t above h))) (λ later. later)
        (contains_cases y ys t there)

    first : a ≡ b
    first = ⊎_elim {C = a ≡ b} (λ e. sym e)
        (λ in_ys. ⊎_elim {C = a ≡ b} (λ e. e)
        (λ in_xs. absurd
        (not_less_itself a
        (nat_list_cmp_total.trans a b a (at_each (λ z. text_cmp a z ≡ Less) xs b sa.0 in_xs)
        (at_each (λ z. text_cmp b z ≡ Less) ys a sb.0 in_ys))))
        (contains_cases a xs b ((same b).1 (contains_here b ys))))
        (contains_cases b ys a ((same a).0 (contains_here a xs)))

pub one_dictionary : (ds ts : List (List ℕ)) → IsDictionary ds ts ↔ (ds ≡ dictionary_of ts)
one_dictionary ds ts =
    let made = IsDictionary-dictionary_of ts in (
      λ h. same_sorted ds (dictionary_of ts) h.sorted made.sorted
          (λ t. (λ c. (made.holds t).1 ((h.holds t).0 c), λ c. (h.holds t).1 ((made.holds t).0 c))),
      λ e. subst (λ xs. IsDictionary xs ts) (sym e) made,
    )

-- ---- its length
length-with_text-le : (t : List ℕ) (ds : List (List ℕ)) → length (with_text t ds) ≤ length ds + 1
length-with_text-le t [] = omega arith
length-with_text-le t (d ∷ ds) = go (text_cmp t d) (length-with_text-le t ds)
  where
    go : (o : Ordering) → length (with_text t ds) ≤ length ds + 1
        → length (match_ordering o (t ∷ d ∷ ds) (d ∷ ds) (d ∷ with_text t ds)) ≤ length (d ∷ ds) + 1
    go Less ih = omega arith
    go Equal ih = omega arith
    go Greater ih = omega (arith, ih)

pub length-dictionary_of-le : (ts : List (List ℕ)) → length (dictionary_of ts) ≤ length ts
unfolding dictionary_of
length-dictionary_of-le [] = omega arith
length-dictionary_of-le (t ∷ ts) = let rest = length-dictionary_of-le ts in let more =
    length-with_text-le t (dictionary_of ts) in omega (arith, rest, more)
