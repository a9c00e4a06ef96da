-- The texts that stand before an edge of a text are the first ones of a dictionary.
use Rattle.std.{proofs.Common.{◌≡◌, ℕ, ◌<◌, Bool, true, false, List, get_or, refl, sym, ap, ◌∙◌, arith, ⊎_elim, true≢false}, proofs.lemmas.Bool.cases_eq, proofs.lemmas.Cmp.{nat_list_cmp_total, alike_right}, proofs.lemmas.Map.Keys.Less-from_sorted, specs.List.Sorted.{IsPartitionedBy, IsStrictlySortedBy}, specs.declared.cmp.Ordering.Ordering, specs.declared.cmp.Ordering.TheVariants.{Less, Equal, Greater}}
use Rattle.star_schema.specs.Dictionary.{text_cmp}

-- an edge of a text is told by which texts stand before it, by how they compare with it: each that
-- is less, and none that is greater
module _ (before : Ordering → Bool) (lesser : before Less ≡ true)
    (greater : before Greater ≡ false) where
  -- an edge that lies after a text lies after each lesser one
  before_edge : (a b t : List ℕ) → text_cmp a b ≡ Less → before (text_cmp b t) ≡ true
      → before (text_cmp a t) ≡ true
  before_edge a b t less is = ap before (go (text_cmp b t) refl is) ∙ lesser
    where
      go : (o : Ordering) → text_cmp b t ≡ o → before (text_cmp b t) ≡ true → text_cmp a t ≡ Less
      go Less e h = nat_list_cmp_total.trans a b t less e
      go Equal e h = sym (alike_right nat_list_cmp_total b t a e) ∙ less
      go Greater e h = absurd (true≢false (sym h ∙ ap before e ∙ greater))

  pub partitioned : (t : List ℕ) (ds : List (List ℕ)) → IsStrictlySortedBy text_cmp ds
      → IsPartitionedBy (λ d. before (text_cmp d t)) ds
  partitioned t ds sorted i j d h l e =
      ⊎_elim {C = before (text_cmp (get_or ds i d) t) ≡ true}
      (λ same. ap (λ n. before (text_cmp (get_or ds n d) t)) same ∙ e)
      (λ other. let lt : i < j = omega (arith, other) in
      before_edge (get_or ds i d) (get_or ds j d) t
      (Less-from_sorted text_cmp ds i j d sorted lt l) e) (cases_eq i j)
