-- Groups don't hang on how their keys are coded.
use Rattle.std.{proofs.Common.{◌≡◌, ℕ, zero, suc, ◌+◌, List, [], ◌∷◌, Option, Some, None, refl, sym, ap, subst, ◌∙◌, arith}, specs.Prelude.{pos, ◌&&◌, map, replicate, slice_index_or}, specs.List.{Contains, list_all}, specs.Option.{is_none, option_map}, specs.Ordering.is_eq, specs.declared.cmp.Ordering.Ordering, proofs.lemmas.Grind.common_steps}
use mathlib.Core.Logic.{inl, inr}
use Rattle.star_common.proofs.Members.{contains_here, contains_later, contains_mapped, from_contains_map}
use Rattle.star_schema.specs.{Groups.{Entry, IsMasked, IsGroup, belongs, is_grouping, members, aggregate, numbers_for, totals_from, GroupRow, AreGroups}, declared.group.Shape.Shape, declared.group.Shape.TheVariants.{Plain, Cube, Rollup}, declared.group.Aggregate.Aggregate}

-- each key by the function of its position
abbrev pub applied : {K L : Type 0} → (ℕ → K → L) → List K → List L
applied f [] = []
applied f (k ∷ ks) = f 0 k ∷ applied (λ i. f (suc i)) ks

abbrev pub applied_some : {K L : Type 0} → (ℕ → K → L) → List (Option K) → List (Option L)
applied_some f [] = []
applied_some f (k ∷ ks) = option_map (f 0) k ∷ applied_some (λ i. f (suc i)) ks

-- the functions keep the test on two key lists of one length
abbrev pub Keeps : {K L : Type 0} → (K → K → Ordering) → (L → L → Ordering) → (ℕ → K → L) → List K
    → List K → Type 0
Keeps same also f [] [] = Unit {0}
Keeps same also f (a ∷ as') (b ∷ bs) =
    (is_eq (also (f 0 a) (f 0 b)) ≡ is_eq (same a b)) × Keeps same also (λ i. f (suc i)) as' bs
Keeps same also f _ _ = ⊥

abbrev pub entry_applied : {K L : Type 0} → (ℕ → K → L) → Entry K → Entry L
entry_applied f e = record { keys = applied f e.keys; values = e.values }

abbrev pub row_applied : {K L : Type 0} → (ℕ → K → L) → GroupRow K → GroupRow L
row_applied f r = record { keys = applied_some f r.keys; totals = r.totals }

-- a masked list is coded as its list is
masked_applied : {K L : Type 0} (f : ℕ → K → L) (m : List (Option K)) (ks : List K)
    → IsMasked m ks → IsMasked (applied_some f m) (applied f ks)
masked_applied f [] [] h = tt
masked_applied f (Some k ∷ m) (x ∷ ks) h = (ap (f 0) h.0, masked_applied (λ i. f (suc i)) m ks h.1)
masked_applied f (None ∷ m) (x ∷ ks) h = masked_applied (λ i. f (suc i)) m ks h
masked_applied f _ _ h = absurd h

-- and each masked list of a coded list is coded
applied_masked : {K L : Type 0} (f : ℕ → K → L) (m : List (Option L)) (ks : List K)
    → IsMasked m (applied f ks) → (n : List (Option K)) × IsMasked n ks × (applied_some f n ≡ m)
applied_masked f [] [] h = ([], tt, refl)
applied_masked f (Some l ∷ m) (x ∷ ks) h =
    let q = applied_masked (λ i. f (suc i)) m ks h.1 in
    (Some x ∷ q.0, (refl, q.1), λ i. Some (sym h.0 i) ∷ q.2 i)
applied_masked f (None ∷ m) (x ∷ ks) h =
    let q = applied_masked (λ i. f (suc i)) m ks h in (None ∷ q.0, q.1, ap (λ l. None ∷ l) q.2)
applied_masked f _ _ h = absurd h

-- it hides the same keys
none_applied : {K L : Type 0} (f : ℕ → K → L) (m : List (Option K))
    → list_all is_none (applied_some f m) ≡ list_all is_none m
none_applied f [] = refl
none_applied f (Some k ∷ m) = refl
none_applied f (None ∷ m) = none_applied (λ i. f (suc i)) m

grouping_applied : {K L : Type 0} (s : Shape) (f : ℕ → K → L) (m : List (Option K))
    → is_grouping s (applied_some f m) ≡ is_grouping s m
grouping_applied Cube f m = refl
grouping_applied Plain f [] = refl
grouping_applied Plain f (Some k ∷ m) = grouping_applied Plain (λ i. f (suc i)) m
grouping_applied Plain f (None ∷ m) = refl
grouping_applied Rollup f [] = refl
grouping_applied Rollup f (Some k ∷ m) = grouping_applied Rollup (λ i. f (suc i)) m
grouping_applied Rollup f (None ∷ m) = none_applied (λ i. f (suc i)) m

no_keys : {K L : Type 0} (f : ℕ → K → L) (k : ℕ)
    → applied_some f (replicate k None) ≡ replicate k None
no_keys f zero = refl
no_keys f (suc k) = ap (λ l. None ∷ l) (no_keys (λ i. f (suc i)) k)

module _ {K L : Type 0} (same : K → K → Ordering) (also : L → L → Ordering) where
  -- which rows belong to a group of a row
  belongs_applied : (f : ℕ → K → L) (m : List (Option K)) (ks vs : List K) → IsMasked m ks
      → Keeps same also f ks vs → belongs also (applied_some f m) (applied f vs) ≡ belongs same m vs
  belongs_applied f [] [] [] h q = refl
  belongs_applied f [] [] (v ∷ vs) h q = absurd q
  belongs_applied f (Some k ∷ m) (x ∷ ks) (v ∷ vs) h q =
      λ i. (ap (λ u. is_eq (also (f 0 u) (f 0 v))) h.0 ∙ q.0 ∙ ap (λ u. is_eq (same u v)) (sym h.0))
      i && belongs_applied (λ i. f (suc i)) m ks vs h.1 q.1 i
  belongs_applied f (None ∷ m) (x ∷ ks) (v ∷ vs) h q =
      belongs_applied (λ i. f (suc i)) m ks vs h q.1
  belongs_applied f (Some k ∷ m) (x ∷ ks) [] h q = absurd q
  belongs_applied f (None ∷ m) (x ∷ ks) [] h q = absurd q
  belongs_applied f _ _ vs h q = absurd h

  -- each belongs to the group of all
  belongs_all : (f : ℕ → K → L) (k : ℕ) (vs : List K)
      → belongs also (applied_some f (replicate k None)) (applied f vs) ≡ belongs same
      (replicate k None) vs
  belongs_all f zero [] = refl
  belongs_all f zero (v ∷ vs) = refl
  belongs_all f (suc k) [] = refl
  belongs_all f (suc k) (v ∷ vs) = belongs_all (λ i. f (suc i)) k vs

  members_applied : (f : ℕ → K → L) (m : List (Option K)) (es : List (Entry K))
      → ((e : Entry K) → Contains es e → belongs also (applied_some f m) (applied f e.keys)
      ≡ belongs same m e.keys) → members also (applied_some f m) (map (entry_applied f) es) ≡ map
      (entry_applied f) (members same m es)
  members_applied f m [] h = refl
  members_applied f m (e ∷ es) h =
      grind (arith, common_steps, members_applied f m es (λ d q. h d (contains_later e es d q)))

  column_applied : (f : ℕ → K → L) (a : ℕ) (es : List (Entry K))
      → numbers_for a (map (entry_applied f) es) ≡ numbers_for a es
  column_applied f a [] = refl
  column_applied f a (e ∷ es) =
      ap (λ l. slice_index_or e.values a (pos 0) ∷ l) (column_applied f a es)

  totals_applied : (f : ℕ → K → L) (gs : List Aggregate) (a : ℕ) (es : List (Entry K))
      → totals_from gs a (map (entry_applied f) es) ≡ totals_from gs a es
  totals_applied f [] a es = refl
  totals_applied f (g ∷ gs) a es =
      λ i. aggregate g (column_applied f a es i) ∷ totals_applied f gs (a + 1) es i

  module _ (s : Shape) (k : ℕ) (gs : List Aggregate) (f : ℕ → K → L) (es : List (Entry K))
      (keeps : (e d : Entry K) → Contains es e → Contains es d
      → Keeps same also f e.keys d.keys) where
    group_belongs : (m : List (Option K)) → IsGroup s k es m → (e : Entry K) → Contains es e
        → belongs also (applied_some f m) (applied f e.keys) ≡ belongs same m e.keys
    group_belongs m it e q = grind (arith, common_steps, belongs_applied, belongs_all)

    group_applied : (m : List (Option K)) → IsGroup s k es m
        → IsGroup s k (map (entry_applied f) es) (applied_some f m)
    group_applied m (shown, inl h) = (
      grouping_applied s f m ∙ shown,
      inl (
        entry_applied f h.0,
        contains_mapped (entry_applied f) es h.0 h.1,
        masked_applied f m h.0.keys h.2,
      ),
    )
    group_applied m (shown, inr all) =
        (grouping_applied s f m ∙ shown, inr (ap (applied_some f) all ∙ no_keys f k))

    applied_group : (m : List (Option L)) → IsGroup s k (map (entry_applied f) es) m
        → (n : List (Option K)) × IsGroup s k es n × (applied_some f n ≡ m)
    applied_group m (shown, inl h) =
        let e = from_contains_map (entry_applied f) es h.0 h.1 in
        let q = applied_masked f m e.0.keys (subst (λ d. IsMasked m d.keys) (sym e.2) h.2) in
        let same : is_grouping s q.0 ≡ is_grouping s m =
        sym (grouping_applied s f q.0) ∙ ap (is_grouping s) q.2 in
        (q.0, (same ∙ shown, inl (e.0, e.1, q.1)), q.2)
    applied_group m (shown, inr all) =
        let none : applied_some f (replicate k None) ≡ m = no_keys f k ∙ sym all in
        let same : is_grouping s (replicate k None) ≡ is_grouping s m =
        sym (grouping_applied s f (replicate k None)) ∙ ap (is_grouping s) none in
        (replicate k None, (same ∙ shown, inr refl), none)

    -- groups of coded rows are the coded groups
    pub groups_applied : (rows : List (GroupRow K)) → AreGroups same s k gs es rows
        → AreGroups also s k gs (map (entry_applied f) es) (map (row_applied f) rows)
    groups_applied rows h = record {
      each = λ r has. (let q = from_contains_map (row_applied f) rows r has in
          let g = h.each q.0 q.1 in
          let there : IsGroup s k (map (entry_applied f) es) (applied_some f q.0.keys)
          × (q.0.totals ≡ totals_from gs 0
          (members also (applied_some f q.0.keys) (map (entry_applied f) es))) = (
            group_applied q.0.keys g.0,
            g.1 ∙ sym
                (ap (totals_from gs 0) (members_applied f q.0.keys es (group_belongs q.0.keys g.0))
                ∙ totals_applied f gs 0 (members same q.0.keys es)),
          ) in
          subst (λ r. IsGroup s k (map (entry_applied f) es) r.keys
          × (r.totals ≡ totals_from gs 0 (members also r.keys (map (entry_applied f) es)))) q.2
          there);
      all = λ m is. (let n = applied_group m is in
          let r = h.all n.0 n.1 in (
            row_applied f r.0,
            contains_mapped (row_applied f) rows r.0 r.1,
            ap (applied_some f) r.2
                ∙ n.2,
          ));
    }
