-- Aggregates over puts where some pass one test and the others another.
use Rattle.star_group.{proofs.Common.{Row, ◌≡◌, ℕ, Bool, true, false, ◌&&◌, ◌||◌, ℤ, pos, List, [], ◌∷◌, Option, Some, None, cond, ap, sym, ◌∙◌, refl, subst, true≢false, list_any, filter, AllByRecursion, Aggregate, Sum, Count, Min, Max, numbers_for, HasAggregates, IsRowOver, step, has_puts, merged_total, cell_of_one_put, merged, IsMerged, IsMergedInto, IsRowOfOnePut, Update, aggregate_at, Group, put_number, Contains, Any-from_list_any, list_any-from_Any}, specs.Cells.held, proofs.ContentByKeys.{plus_comm, plus_assoc, least_comm, least_assoc, greatest_comm, greatest_assoc}}
use Rattle.std.proofs.{Common.arith, lemmas.Int.ints}

-- ---- the operations

both_comm : (g : Aggregate) (x y : ℤ) → merged_total g x y ≡ merged_total g y x
both_comm it = grind (arith, ints, plus_comm, least_comm, greatest_comm)

both_assoc : (g : Aggregate) (x y z : ℤ)
    → merged_total g (merged_total g x y) z ≡ merged_total g x (merged_total g y z)
both_assoc it = grind (arith, ints, plus_assoc, least_assoc, greatest_assoc)

pub merged_comm : (g : Aggregate) (r s : Option ℤ) → merged g r s ≡ merged g s r
merged_comm g None None = refl
merged_comm g None (Some y) = refl
merged_comm g (Some x) None = refl
merged_comm g (Some x) (Some y) = ap Some (both_comm g x y)

merged_assoc : (g : Aggregate) (r s t : Option ℤ)
    → merged g (merged g r s) t ≡ merged g r (merged g s t)
merged_assoc g it s t = grind (arith, ints, both_assoc)

-- ---- one number more

one_step : (g : Aggregate) (v : ℤ) (r : Option ℤ)
    → Some (step g v r) ≡ merged g (Some (cell_of_one_put g v)) r
one_step Sum v None = refl
one_step Sum v (Some z) = refl
one_step Count v None = refl
one_step Count v (Some z) = ap Some (plus_comm z (pos 1))
one_step Min v None = refl
one_step Min v (Some z) = refl
one_step Max v None = refl
one_step Max v (Some z) = refl

pub held_one : (g : Aggregate) (v : ℤ) (vs : List ℤ)
    → held g (v ∷ vs) ≡ merged g (Some (cell_of_one_put g v)) (held g vs)
unfolding held
held_one g v vs = one_step g v (held g vs)

pub held_none : (g : Aggregate) → held g [] ≡ None
unfolding held
held_none g = refl

-- ---- puts that pass a test

pub any_filter : (t : Update → Bool) (us : List Update) → has_puts (filter t us) ≡ list_any t us
any_filter t [] = refl
any_filter t (u ∷ us) = grind (arith, any_filter t us)

-- a put that passes, where there is one
pub put_of : (t : Update → Bool) (us : List Update) → has_puts (filter t us) ≡ true
    → (u : Update) × Contains us u × (t u ≡ true)
put_of t us h =
    let some = Any-from_list_any t us (sym (any_filter t us) ∙ h) in
    (some.1, (some.0, some.2, some.3), some.4)

pub has_put : (t : Update → Bool) (us : List Update) (u : Update) → Contains us u → t u ≡ true
    → has_puts (filter t us) ≡ true
has_put t us u c h = any_filter t us ∙ list_any-from_Any t us (c.0, u, c.1, c.2, h)

-- the puts that pass a test are those that pass one of two, and none passes both
abbrev pub AreSplit : (Update → Bool) → (Update → Bool) → (Update → Bool) → List Update → Type 0
AreSplit ta tb tc us = AllByRecursion (λ u. (tc u ≡ (ta u || tb u)) × ((ta u && tb u) ≡ false)) us

pub held_parts : (g : Aggregate) (index : ℕ) (ta tb tc : Update → Bool) (us : List Update)
    → AreSplit ta tb tc us → held g (numbers_for index (filter tc us))
    ≡ merged g (held g (numbers_for index (filter ta us)))
    (held g (numbers_for index (filter tb us)))
held_parts g index ta tb tc [] parts =
    held_none g ∙ (λ i. merged g (sym (held_none g) i) (sym (held_none g) i))
held_parts g index ta tb tc (u ∷ us) parts =
    ap (λ b. held g (numbers_for index (cond b (u ∷ filter tc us) (filter tc us)))) parts.0.0
    ∙ by (ta u) (tb u) parts.0.1 (held_parts g index ta tb tc us parts.1)
  where
    one : Option ℤ
    one = Some (cell_of_one_put g (put_number index u))

    over : (Update → Bool) → Option ℤ
    over t = held g (numbers_for index (filter t us))

    more : (t : Update → Bool)
        → held g (numbers_for index (u ∷ filter t us)) ≡ merged g one (over t)
    more t = held_one g (put_number index u) (numbers_for index (filter t us))

    by : (x y : Bool) → (x && y) ≡ false → over tc ≡ merged g (over ta) (over tb)
        → held g (numbers_for index (cond (x || y) (u ∷ filter tc us) (filter tc us)))
        ≡ merged g (held g (numbers_for index (cond x (u ∷ filter ta us) (filter ta us))))
        (held g (numbers_for index (cond y (u ∷ filter tb us) (filter tb us))))
    by true true never e = absurd (true≢false never)
    by true false never e = more tc ∙ ap (merged g one) e
        ∙ sym (merged_assoc g one (over ta) (over tb))
        ∙ ap (λ r. merged g r (over tb)) (sym (more ta))
    by false true never e =
        more tc ∙ ap (merged g one) e ∙ sym (merged_assoc g one (over ta) (over tb))
        ∙ ap (λ r. merged g r (over tb)) (merged_comm g one (over ta))
        ∙ merged_assoc g (over ta) one (over tb) ∙ ap (merged g (over ta)) (sym (more tb))
    by false false never e = e

-- ---- rows

-- the row of one put
pub row_of_one : (d : Group) (u : Update) (row : Row)
    → IsRowOfOnePut d.aggregates u.values row → HasAggregates d (u ∷ []) row
row_of_one d u row is index h = grind (arith, held_one, merged, held_none)

-- one put more
pub merged_more : (d : Group) (u : Update) (us : List Update) (held_row row new : Row)
    → IsRowOfOnePut d.aggregates u.values row → HasAggregates d us held_row
    → IsMerged d.aggregates held_row row new → HasAggregates d (u ∷ us) new
merged_more d u us held_row row new one so_far is index h =
    grind (arith, merged, one, merged_comm, held_one)

pub no_puts : (us : List Update) → has_puts us ≡ false → us ≡ []
no_puts [] h = refl
no_puts (u ∷ us) h = absurd (true≢false h)

any_parts : (ta tb tc : Update → Bool) (us : List Update) → AreSplit ta tb tc us
    → list_any tb us ≡ true → list_any tc us ≡ true
any_parts ta tb tc [] parts h = h
any_parts ta tb tc (u ∷ us) parts h =
    ap (λ b. b || list_any tc us) parts.0.0 ∙ by (ta u) (tb u) h (any_parts ta tb tc us parts.1)
  where
    by : (x y : Bool) → (y || list_any tb us) ≡ true
        → (list_any tb us ≡ true → list_any tc us ≡ true) → ((x || y) || list_any tc us) ≡ true
    by true y h later = refl
    by false true h later = refl
    by false false h later = later h

-- a row over some puts, with one over others merged into it
pub over_parts : (d : Group) (us : List Update) (ta tb tc : Update → Bool)
    (found new : Option Row) (more : Row) → AreSplit ta tb tc us
    → IsRowOver d (filter ta us) found → IsRowOver d (filter tb us) (Some more)
    → IsMergedInto d.aggregates more found new → IsRowOver d (filter tc us) new
over_parts d us ta tb tc found new more parts was adds merges = by found was merges
  where
    there : has_puts (filter tc us) ≡ true
    there = any_filter tc us ∙ any_parts ta tb tc us parts (sym (any_filter tb us) ∙ adds.0)

    by : (found : Option Row) → IsRowOver d (filter ta us) found
        → IsMergedInto d.aggregates more found new → IsRowOver d (filter tc us) new
    by None was m = subst (IsRowOver d (filter tc us)) (sym m.1) (
      there,
      λ index h. m.2 index h ∙ adds.1 index h
          ∙ sym (held_parts (aggregate_at d.aggregates index) index ta tb tc us parts
          ∙ ap (λ ps. merged (aggregate_at d.aggregates index)
          (held (aggregate_at d.aggregates index) (numbers_for index ps))
          (held (aggregate_at d.aggregates index) (numbers_for index (filter tb us))))
          (no_puts (filter ta us) was)
          ∙ ap (λ r. merged (aggregate_at d.aggregates index) r
          (held (aggregate_at d.aggregates index) (numbers_for index (filter tb us))))
          (held_none (aggregate_at d.aggregates index))),
    )
    by (Some row) was m = subst (IsRowOver d (filter tc us)) (sym m.1) (
      there,
      λ index h. m.2 index h ∙ (λ i.
          merged (aggregate_at d.aggregates index) (was.1 index h i) (adds.1 index h i))
          ∙ sym (held_parts (aggregate_at d.aggregates index) index ta tb tc us parts),
    )
