-- Rows that are in order are so in one way, and so a run has one outcome.
use Rattle.std.{proofs.Common.{◌≡◌, ◌∙◌, ℕ, zero, suc, true≢false, List, [], ◌∷◌, Option, Some, None, ap, arith, get_or, map, refl, subst, sym}, proofs.lemmas.Cmp.{int_cmp_total, lists_total, nat_cmp_total}, specs.Cmp.Lexicographic.slice_cmp, specs.List.{AllByRecursion, Contains}, specs.List.Sorted.IsStrictlySortedBy, specs.Ordering.{is_lt, ordering_reverse, ordering_then}, specs.declared.cmp.Ordering.Ordering, specs.declared.cmp.Ordering.TheVariants.{Less, Equal, Greater}}
use Rattle.star_common.proofs.Members.{at_each, contains_here, contains_later, contains_mapped, from_contains_map}
use Rattle.star_schema.specs.{Groups.{AreGroups, Entry, GroupRow, members, totals_of}, Order.{column_cmp, key_cmp, row_cmp, sort_cmp, total_cmp, value_cmp}, declared.group.Aggregate.Aggregate, declared.group.GroupColumn.GroupColumn, declared.group.Direction.Direction, declared.group.Direction.TheVariants.{Ascending, Descending}, declared.group.Shape.Shape, declared.group.SortKey.SortKey, Tables.{Value, Number, Text}}
use Rattle.star_program.specs.{declared.group.GroupDecl.GroupDecl, declared.outcome.Outcome.Outcome, declared.program.Parts.Parts, Effects.State, Faults.group_at, Outcome.AreReportRows, Outcome.IsOutcome, Outcome.decoded_row, Outcome.shown_cells, Puts.Update, World.World}
use Rattle.star_schema.specs.declared.group.GroupColumn.TheVariants as column

-- ---- the order of rows, turned round

abbrev IsTurned : {X : Type 0} → (X → X → Ordering) → Type 0
IsTurned {X} cmp = (a b : X) → cmp a b ≡ ordering_reverse (cmp b a)

then_turned : (a b c e : Ordering) → a ≡ ordering_reverse c → b ≡ ordering_reverse e
    → ordering_then a b ≡ ordering_reverse (ordering_then c e)
then_turned a b Less e h k = ap (λ o. ordering_then o b) h
then_turned a b Equal e h k = ap (λ o. ordering_then o b) h ∙ k
then_turned a b Greater e h k = ap (λ o. ordering_then o b) h

pub value_turned : IsTurned value_cmp
value_turned (Number x) (Number y) = int_cmp_total.antisymm x y
value_turned (Number x) (Text b) = refl
value_turned (Text a) (Number y) = refl
value_turned (Text a) (Text b) = (lists_total nat_cmp_total).antisymm a b

key_turned : IsTurned (key_cmp value_cmp)
key_turned (Some a) (Some b) = value_turned a b
key_turned (Some a) None = refl
key_turned None (Some b) = refl
key_turned None None = refl

keys_turned : (xs ys : List (Option Value))
    → slice_cmp (key_cmp value_cmp) xs ys ≡ ordering_reverse (slice_cmp (key_cmp value_cmp) ys xs)
keys_turned [] [] = refl
keys_turned [] (y ∷ ys) = refl
keys_turned (x ∷ xs) [] = refl
keys_turned (x ∷ xs) (y ∷ ys) =
    then_turned _ _ (key_cmp value_cmp y x) (slice_cmp (key_cmp value_cmp) ys xs) (key_turned x y)
    (keys_turned xs ys)

total_turned : IsTurned total_cmp
total_turned (Some x) (Some y) = int_cmp_total.antisymm x y
total_turned (Some x) None = refl
total_turned None (Some y) = refl
total_turned None None = refl

column_turned : (c : GroupColumn) → IsTurned (column_cmp value_cmp c)
column_turned (column.Key index) a b =
    key_turned (get_or a.keys index None) (get_or b.keys index None)
column_turned (column.Aggregate index) a b =
    total_turned (get_or a.totals index None) (get_or b.totals index None)

sort_turned : (c : GroupColumn) (d : Direction) (a b : GroupRow Value)
    → sort_cmp value_cmp (record { column = c; direction = d }) a b
    ≡ ordering_reverse (sort_cmp value_cmp (record { column = c; direction = d }) b a)
sort_turned c Ascending a b = column_turned c a b
sort_turned c Descending a b = column_turned c b a

pub row_turned : (sorts : List SortKey) → IsTurned (row_cmp value_cmp sorts)
row_turned [] a b = keys_turned a.keys b.keys
row_turned (sort ∷ sorts) a b =
    then_turned _ _ (sort_cmp value_cmp sort b a) (row_cmp value_cmp sorts b a)
    (sort_turned sort.column sort.direction a b) (row_turned sorts a b)

-- ---- two lists in order with the same elements

module _ {X : Type 0} where
  module _ (R : X → X → Ordering) (turned : IsTurned R) where
    not_both : (a b : X) → R a b ≡ Less → R b a ≡ Less → ⊥
    not_both a b h k = true≢false
        (sym (ap is_lt h) ∙ ap is_lt (turned a b) ∙ ap (λ o. is_lt (ordering_reverse o)) k)

    same_first : (x y : X) (xs ys : List X) → AllByRecursion (λ z. R x z ≡ Less) xs
        → AllByRecursion (λ z. R y z ≡ Less) ys → Contains (y ∷ ys) x → Contains (x ∷ xs) y → y ≡ x
    same_first x y xs ys up_x up_y (zero, h, e) d = e
    same_first x y xs ys up_x up_y (suc k, h, e) (zero, g, f) = sym f
    same_first x y xs ys up_x up_y (suc k, h, e) (suc j, g, f) =
        absurd (not_both x y (at_each (λ z. R x z ≡ Less) xs y up_x (j, omega (arith, g), f))
        (at_each (λ z. R y z ≡ Less) ys x up_y (k, omega (arith, h), e)))

    -- an element after the first stands after the first of the other list too
    after_first : (x y z : X) (xs ys : List X) → y ≡ x → AllByRecursion (λ w. R x w ≡ Less) xs
        → Contains xs z → Contains (y ∷ ys) z → Contains ys z
    after_first x y z xs ys same up c (suc k, h, e) = (k, omega (arith, h), e)
    after_first x y z xs ys same up c (zero, h, e) =
        let above = at_each (λ w. R x w ≡ Less) xs z up c in
        let is : z ≡ x = sym e ∙ same in
        let itself : R x x ≡ Less = subst (λ w. R x w ≡ Less) is above in
        absurd (not_both x x itself itself)

    pub one_order : (xs ys : List X) → IsStrictlySortedBy R xs → IsStrictlySortedBy R ys
        → ((z : X) → Contains xs z → Contains ys z) → ((z : X) → Contains ys z → Contains xs z)
        → xs ≡ ys
    unfolding IsStrictlySortedBy
    one_order [] [] h k f g = refl
    one_order [] (y ∷ ys) h k f g = absurd (omega (arith, (g y (contains_here y ys)).1))
    one_order (x ∷ xs) [] h k f g = absurd (omega (arith, (f x (contains_here x xs)).1))
    one_order (x ∷ xs) (y ∷ ys) h k f g =
        let first : y ≡ x = same_first x y xs ys h.0 k.0 (f x (contains_here x xs))
        (g y (contains_here y ys)) in
        let rest = one_order xs ys h.1 k.1
        (λ z c. after_first x y z xs ys first h.0 c (f z (contains_later x xs z c)))
        (λ z c. after_first y x z ys xs (sym first) k.0 c (g z (contains_later y ys z c))) in
        λ i. sym first i ∷ rest i

-- ---- the rows of some groups

-- a row's keys tell its totals
pub same_groups : {K : Type 0} (cmp : K → K → Ordering) (s : Shape) (count : ℕ)
    (gs : List Aggregate) (us : List (Entry K)) (xs ys : List (GroupRow K))
    → AreGroups cmp s count gs us xs → AreGroups cmp s count gs us ys → (g : GroupRow K)
    → Contains xs g → Contains ys g
same_groups {K} cmp s count gs us xs ys a b g c =
    let known = a.each g c in
    let found = b.all g.keys known.0 in
    let totals : found.0.totals ≡ g.totals =
    (b.each found.0 found.1).1 ∙ ap (λ ks. totals_of gs (members cmp ks us)) found.2
    ∙ sym known.1 in
    let same : found.0 ≡ g = λ i. record { keys = found.2 i; totals = totals i } in
    subst (Contains ys) same found.1

module _ (w : World) (parts : Parts) (d : GroupDecl) (us : List Update) where
  among : (xs ys : List (GroupRow Value)) → AreReportRows w parts d us xs
      → AreReportRows w parts d us ys → (z : GroupRow Value) → Contains xs z → Contains ys z
  among xs ys a b z c =
      let from = from_contains_map (decoded_row w d) a.groups z
      (subst (λ rows. Contains rows z) a.decoded c) in
      let there = same_groups _ _ _ _ _ a.groups b.groups a.each_group b.each_group from.0 from.1 in
      subst (λ rows. Contains rows z) (sym b.decoded)
      (subst (Contains (map (decoded_row w d) b.groups)) from.2
      (contains_mapped (decoded_row w d) b.groups from.0 there))

  one_list : (xs ys : List (GroupRow Value)) → AreReportRows w parts d us xs
      → AreReportRows w parts d us ys → xs ≡ ys
  one_list xs ys a b = one_order (row_cmp value_cmp parts.sorts) (row_turned parts.sorts) xs ys
      a.in_order b.in_order (among xs ys a b) (among ys xs b a)

pub one_outcome : (w : World) (parts : Parts) (s : State) (a b : Outcome) → IsOutcome w parts s a
    → IsOutcome w parts s b → a ≡ b
one_outcome w parts s a b h k =
    let rows = one_list w parts (group_at parts parts.report) (s.updates_of parts.report) h.rows
    k.rows h.reported k.reported in
    λ i. record {
      names = (h.names ∙ sym k.names) i;
      rows = (h.cells ∙ ap (map (shown_cells parts)) rows ∙ sym k.cells) i;
      visits = (h.visits ∙ sym k.visits) i;
      lookups = (h.lookups ∙ sym k.lookups) i;
      updates = (h.updates ∙ sym k.updates) i;
    }
