-- Rows that were sorted.
use Rattle.std.{proofs.Common.{◌≡◌, ◌+◌, ◌<◌, ℕ, Bool, false, true≢false, List, [], ◌∷◌, Option, length, get_or, map, arith, ap, sym, subst, refl, ◌∙◌}, specs.Prelude.IsPermutation, specs.Cmp.{IsStrictWeakOrder, IsTotalOrder}, specs.Fn.{Called, ComparesAs}, specs.List.{Contains, IsDistinct}, specs.List.Sorted.{IsSortedBy, IsStrictlySortedBy}, specs.Ordering.{is_lt, ordering_reverse}, specs.declared.cmp.Ordering.Ordering, specs.declared.cmp.Ordering.TheVariants.{Less, Equal, Greater}, proofs.lemmas.Fn.always_returns_same, proofs.lemmas.List.{get_or-map, length-map, map-id}, proofs.lemmas.List.Elements.Contains-get_or, proofs.lemmas.List.Sorted.{Contains-permutation, IsPermutation-map, IsPermutation-sym, ranks_by}, proofs.lemmas.Map.Keys.{IsDistinct-IsPermutation, apart_from_distinct, sorted_from_all_adjacent}}
use denote.Param.Members.{Mut}
use denote.Ref.{Bor}
use Rattle.star_schema.specs.{declared.group.SortKey.SortKey, Groups.GroupRow as Row, Order.AreInOrder, Order.row_cmp}
use Rattle.star_common.proofs.Members.{at_each, contains_here, contains_later, from_contains_map, of_each}
use Rattle.star_program.specs.{declared.key.KeyValue.KeyValue, Keys.key_value_cmp}
use Rattle.star_group.{specs.BaseKeys.key_eq, proofs.GroupKeys.{key_decides, key_equiv}}
use Rattle.star_outcome.{specs.Private.RowOrder.{all_sorts, row_order}, proofs.RowOrders.{AreAlike, row_total, rows_level, same_order}}

-- what a sort by a closure ensures, where each call answers by an order
pub sorted_by_answers : {X : Type 0} (R : X → X → Ordering) → IsTotalOrder R
    → {F : Type 0} {g : Mut F (Bor X × (Bor X × Unit {0})) Ordering} {f : F} (xs : List X)
    → ((lt : X → X → Bool) → IsStrictWeakOrder lt → ComparesAs g lt f → IsSortedBy lt xs)
    → ((a : Bor X × (Bor X × Unit {0})) (r : Ordering) (f' : F) → Called g f a r f'
    → (r ≡ R a.0.now a.1.0.now) × (f' ≡ f)) → IsSortedBy (λ x y. is_lt (R x y)) xs
sorted_by_answers R order {g = g} {f = f} xs up answers =
    up (λ x y. is_lt (R x y)) (ranks_by order (λ x. x))
    (always_returns_same g (λ a r. is_lt r ≡ is_lt (R a.0.now a.1.0.now)) f
    (λ a r f' k. (ap is_lt (answers a r f' k).0, (answers a r f' k).1)))

-- a list that ascends by one order, mapped: it ascends by another that agrees with the first
pub sorted_mapped : {X Y : Type 0} (f : X → Y) (R : X → X → Ordering) (S : Y → Y → Ordering)
    (xs : List X) → ((a b : X) → Contains xs a → Contains xs b → S (f a) (f b) ≡ R a b)
    → IsStrictlySortedBy R xs → IsStrictlySortedBy S (map f xs)
unfolding IsStrictlySortedBy
sorted_mapped f R S [] agree up = tt
sorted_mapped f R S (x ∷ xs) agree up = (
  of_each (λ y. S (f x) y ≡ Less) (map f xs) (λ y c.
      let from = from_contains_map f xs y c in
      subst (λ z. S (f x) z ≡ Less) from.2
      (agree x from.0 (contains_here x xs) (contains_later x xs from.0 from.1)
      ∙ at_each (λ z. R x z ≡ Less) xs from.0 up.0 from.1)),
  sorted_mapped f R S xs (λ a b in_a in_b.
      agree a b (contains_later x xs a in_a) (contains_later x xs b in_b)) up.1,
)

-- a list that ascends by what is made of its elements: what is made of them ascends
pub sorted_under : {X Y : Type 0} (f : X → Y) (lt : Y → Y → Bool) (xs : List X)
    → IsSortedBy (λ a b. lt (f a) (f b)) xs → IsSortedBy lt (map f xs)
sorted_under f lt [] up = λ k d from next. absurd (omega (arith, next))
sorted_under f lt (x ∷ xs) up = λ k d from next.
    let within : k + 1 < length (x ∷ xs) = omega (arith, next, length-map (x ∷ xs) f) in
    let first = get_or-map f (x ∷ xs) k x d (omega (arith, within)) in
    let second = get_or-map f (x ∷ xs) (k + 1) x d within in
    (λ i. lt (second i) (first i)) ∙ up k x from within

-- ---- the rows of a group

abbrev pub keys_of_row : Row KeyValue → List (Option KeyValue)
keys_of_row row = row.keys

-- no two rows have the same keys
abbrev pub AreApart : List (Row KeyValue) → Type 0
AreApart rows = IsDistinct key_eq (map keys_of_row rows)

-- rows that differ by their keys, where only rows with the same keys are level
strictly : (R : Row KeyValue → Row KeyValue → Ordering) → IsTotalOrder R
    → (rows : List (Row KeyValue))
    → ((a b : Row KeyValue) → Contains rows a → Contains rows b → R a b ≡ Equal → a.keys ≡ b.keys)
    → IsSortedBy (λ a b. is_lt (R a b)) rows → AreApart rows → IsStrictlySortedBy R rows
unfolding IsStrictlySortedBy
strictly R order [] level up apart = tt
strictly R order (row ∷ rows) level up apart =
    sorted_from_all_adjacent order (row ∷ rows) row (λ k next.
    let first = Contains-get_or (row ∷ rows) k row (omega (arith, next)) in
    let second = Contains-get_or (row ∷ rows) (k + 1) row next in
    before (get_or (row ∷ rows) k row) (get_or (row ∷ rows) (k + 1) row) first second
    (up k row (omega arith) next) (differ k next))
  where
    before : (a b : Row KeyValue) → Contains (row ∷ rows) a → Contains (row ∷ rows) b
        → is_lt (R b a) ≡ false → (a.keys ≡ b.keys → ⊥) → R a b ≡ Less
    before a b in_a in_b not_after apart = by (R b a) refl
      where
        by : (o : Ordering) → R b a ≡ o → R a b ≡ Less
        by Less e = absurd (true≢false (sym (ap is_lt e) ∙ not_after))
        by Equal e = absurd (apart (sym (level b a in_b in_a e)))
        by Greater e = order.antisymm a b ∙ ap ordering_reverse e

    differ : (k : ℕ) → k + 1 < length (row ∷ rows)
        → (get_or (row ∷ rows) k row).keys ≡ (get_or (row ∷ rows) (k + 1) row).keys → ⊥
    differ k next same =
        let first = get_or-map keys_of_row (row ∷ rows) k row row.keys (omega arith) in
        let second = get_or-map keys_of_row (row ∷ rows) (k + 1) row row.keys next in
        let told = apart_from_distinct key_eq (map keys_of_row (row ∷ rows)) k (k + 1) row.keys
        apart (omega arith) (omega (arith, length-map (row ∷ rows) keys_of_row)) in
        true≢false (sym ((key_decides (get_or (map keys_of_row (row ∷ rows)) k row.keys)
        (get_or (map keys_of_row (row ∷ rows)) (k + 1) row.keys)).1 (first ∙ same ∙ sym second))
        ∙ told)

pub sorted_rows : (sorts : List SortKey) (count : ℕ) (old new : List (Row KeyValue)) → AreApart old
    → ((a b : Row KeyValue) → Contains old a → Contains old b → AreAlike count a b)
    → IsPermutation old new → IsSortedBy (λ a b. is_lt (row_order (all_sorts sorts count) a b)) new
    → AreInOrder key_value_cmp sorts new
sorted_rows sorts count old new apart alike moved up =
    let back = IsPermutation-sym old new moved in
    let all = all_sorts sorts count in
    let each : (a b : Row KeyValue) → Contains new a → Contains new b
    → AreAlike count a b =
    λ a b in_a in_b. alike a b (Contains-permutation new old a back in_a)
    (Contains-permutation new old b back in_b) in
    subst (IsStrictlySortedBy (row_cmp key_value_cmp sorts)) (map-id new)
    (sorted_mapped (λ row. row) (row_order all) (row_cmp key_value_cmp sorts) new
    (λ a b in_a in_b. same_order sorts count a b (each a b in_a in_b))
    (strictly (row_order all) (row_total all) new
    (λ a b in_a in_b. rows_level sorts count a b (each a b in_a in_b)) up
    (IsDistinct-IsPermutation key_eq key_equiv.symm (map keys_of_row old)
    (map keys_of_row new) (IsPermutation-map keys_of_row old new moved) apart)))
