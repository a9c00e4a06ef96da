-- Sorted groups are in the order of a report.
use Rattle.std.{proofs.Common.{◌≡◌, ◌∙◌, ℕ, zero, suc, ◌+◌, ◌<◌, false, true≢false, List, [], ◌∷◌, Option, Some, None, ap, get_or, length, map, sym, subst, refl, arith}, proofs.lemmas.Cmp.{back_total, int_cmp_total, lists_total, nat_list_cmp_total, on_total, then_total, tied_itself}, proofs.lemmas.Bool.or_parts, proofs.lemmas.Map.Keys.sorted_from_all_adjacent, specs.Ordering.{flip_args, int_cmp, is_eq, is_lt, ordering_reverse, ordering_then}, specs.Prelude.ℤ, specs.Cmp.IsTotalOrder, specs.Cmp.Lexicographic.{slice_cmp, options_total}, specs.List.{AllByRecursion, Contains}, specs.List.Sorted.{IsSortedBy, IsStrictlySortedBy}, specs.Option.{is_some, option_cmp}, specs.declared.cmp.Ordering.Ordering, specs.declared.cmp.Ordering.TheVariants.{Less, Equal, Greater}}
use Rattle.star_common.proofs.Members.{contains_here, contains_later}
use Rattle.star_schema.specs.{declared.group.GroupColumn.GroupColumn, declared.group.Direction.Direction, declared.group.Direction.TheVariants.{Ascending, Descending}, declared.group.SortKey.SortKey, Groups.GroupRow, Order.{AreInOrder, key_cmp, value_cmp}, Tables.{Value, Number, Text}}
use Rattle.star_merge_laws.proofs.{Regrouping.keys_are, Values.value_decides}
use Rattle.star_merge.specs.{Private.Adding.AreApart, Private.Adding.is_there, Private.RowOrder.column_order, Private.RowOrder.directed_order, Private.RowOrder.numbers_in, Private.RowOrder.row_order}
use Rattle.star_schema.specs.declared.group.GroupColumn.TheVariants as column
use Rattle.star_schema.specs.Order as report

-- ---- an order

value_total : IsTotalOrder value_cmp
value_total = record { antisymm = antisymm; trans = trans; congr = congr }
  where
    antisymm : (a b : Value) → value_cmp a b ≡ ordering_reverse (value_cmp b a)
    antisymm (Number x) (Number y) = int_cmp_total.antisymm x y
    antisymm (Number x) (Text n) = refl
    antisymm (Text m) (Number y) = refl
    antisymm (Text m) (Text n) = nat_list_cmp_total.antisymm m n

    trans : (a b c : Value) → value_cmp a b ≡ Less → value_cmp b c ≡ Less → value_cmp a c ≡ Less
    trans (Number x) (Number y) (Number z) p q = int_cmp_total.trans x y z p q
    trans (Number x) b (Text o) p q = refl
    trans (Number x) (Text n) (Number z) p q = cc q
    trans (Text m) (Number y) c p q = cc p
    trans (Text m) (Text n) (Number z) p q = q
    trans (Text m) (Text n) (Text o) p q = nat_list_cmp_total.trans m n o p q

    congr : (a b c : Value) → value_cmp a b ≡ Equal → value_cmp a c ≡ value_cmp b c
    congr (Number x) (Number y) (Number z) p = int_cmp_total.congr x y z p
    congr (Number x) (Number y) (Text o) p = refl
    congr (Number x) (Text n) c p = cc p
    congr (Text m) (Number y) c p = cc p
    congr (Text m) (Text n) (Number z) p = refl
    congr (Text m) (Text n) (Text o) p = nat_list_cmp_total.congr m n o p

key_total : {K : Type 0} {cmp : K → K → Ordering} → IsTotalOrder cmp → IsTotalOrder (key_cmp cmp)
key_total {K} {cmp} o = subst IsTotalOrder (λ i a b. turned a b i)
    (back_total (options_total (back_total o)))
  where
    turned : (a b : Option K) → option_cmp (flip_args cmp) b a ≡ key_cmp cmp a b
    turned (Some a) (Some b) = refl
    turned (Some a) None = refl
    turned None (Some b) = refl
    turned None None = refl

pub keys_total : IsTotalOrder (slice_cmp (key_cmp value_cmp))
keys_total = lists_total (key_total value_total)

column_total : (c : GroupColumn) → IsTotalOrder (column_order c)
column_total (column.Key index) =
    on_total (λ (row : GroupRow Value). get_or row.keys index None) (key_total value_total)
column_total (column.Aggregate index) =
    on_total (λ (row : GroupRow Value). get_or row.totals index None) (options_total int_cmp_total)

directed_total : (c : GroupColumn) (d : Direction) → IsTotalOrder (directed_order c d)
directed_total c Ascending = column_total c
directed_total c Descending = back_total (column_total c)

pub row_total : (sorts : List SortKey) → IsTotalOrder (row_order sorts)
row_total [] = on_total (λ (row : GroupRow Value). row.keys) keys_total
row_total (sort ∷ sorts) = then_total (directed_total sort.column sort.direction) (row_total sorts)

-- ---- only rows with the same keys are level

second_equal : (a b : Ordering) → ordering_then a b ≡ Equal → b ≡ Equal
second_equal Less b e = cc e
second_equal Equal b e = e
second_equal Greater b e = cc e

rows_level : (sorts : List SortKey) (a b : GroupRow Value) → row_order sorts a b ≡ Equal
    → a.keys ≡ b.keys
rows_level [] a b e = keys_are value_cmp value_decides a.keys b.keys (ap is_eq e)
rows_level (sort ∷ sorts) a b e =
    rows_level sorts a b (second_equal (directed_order sort.column sort.direction a b)
    (row_order sorts a b) e)

before_next : (sorts : List SortKey) (a b : GroupRow Value) → is_lt (row_order sorts b a) ≡ false
    → (a.keys ≡ b.keys → ⊥) → row_order sorts a b ≡ Less
before_next sorts a b not_after differ = by (row_order sorts b a) refl
  where
    by : (o : Ordering) → row_order sorts b a ≡ o → row_order sorts a b ≡ Less
    by Less e = absurd (true≢false (sym (ap is_lt e) ∙ not_after))
    by Equal e = absurd (differ (sym (rows_level sorts b a e)))
    by Greater e = (row_total sorts).antisymm a b ∙ ap ordering_reverse e

-- ---- the order of the report

abbrev HaveSameNulls : GroupRow Value → GroupRow Value → Type 0
HaveSameNulls a b = numbers_in a ≡ numbers_in b

some_at : (xs : List (Option ℤ)) (index : ℕ)
    → is_some (get_or xs index None) ≡ get_or (map is_some xs) index false
some_at [] index = refl
some_at (x ∷ xs) zero = refl
some_at (x ∷ xs) (suc index) = some_at xs index

same_total : (x y : Option ℤ) → is_some x ≡ is_some y
    → report.total_cmp x y ≡ option_cmp int_cmp x y
same_total (Some x) (Some y) e = refl
same_total (Some x) None e = absurd (true≢false e)
same_total None (Some y) e = absurd (true≢false (sym e))
same_total None None e = refl

same_column : (c : GroupColumn) (a b : GroupRow Value) → HaveSameNulls a b
    → report.column_cmp value_cmp c a b ≡ column_order c a b
same_column (column.Key index) a b h = refl
same_column (column.Aggregate index) a b h =
    same_total (get_or a.totals index None) (get_or b.totals index None)
    (some_at a.totals index ∙ ap (λ bs. get_or bs index false) h ∙ sym (some_at b.totals index))

same_directed : (c : GroupColumn) (d : Direction) (a b : GroupRow Value) → HaveSameNulls a b
    → report.sort_cmp value_cmp (record { column = c; direction = d }) a b ≡ directed_order c d a b
same_directed c Ascending a b h = same_column c a b h
same_directed c Descending a b h = same_column c b a (sym h)

same_order : (sorts : List SortKey) (a b : GroupRow Value) → HaveSameNulls a b
    → report.row_cmp value_cmp sorts a b ≡ row_order sorts a b
same_order [] a b h = refl
same_order (sort ∷ sorts) a b h =
    λ i. ordering_then (same_directed sort.column sort.direction a b h i) (same_order sorts a b h i)

-- ---- sorted rows

differ_at : (rows : List (GroupRow Value)) (k : ℕ) (d : GroupRow Value) → AreApart value_cmp rows
    → k + 1 < length rows → (get_or rows k d).keys ≡ (get_or rows (k + 1) d).keys → ⊥
differ_at [] k d apart within same = absurd (omega (arith, within))
differ_at (row ∷ []) k d apart within same = absurd (omega (arith, within))
differ_at (row ∷ next ∷ rows) zero d apart within same =
    let parts = or_parts (is_eq (slice_cmp (key_cmp value_cmp) row.keys next.keys))
    (is_there value_cmp row.keys rows) apart.0 in
    true≢false (sym (ap is_eq (tied row.keys))
    ∙ ap (λ ks. is_eq (slice_cmp (key_cmp value_cmp) row.keys ks)) same
    ∙ parts.0)
  where
    tied : (ks : List (Option Value)) → slice_cmp (key_cmp value_cmp) ks ks ≡ Equal
    tied ks = tied_itself keys_total ks
differ_at (row ∷ next ∷ rows) (suc k) d apart within same =
    let e : suc k + 1 ≡ suc (k + 1) = omega arith in
    differ_at (next ∷ rows) k d apart.1 (omega (arith, within))
    (same ∙ ap (λ n. (get_or (row ∷ next ∷ rows) n d).keys) e)

strictly : (sorts : List SortKey) (rows : List (GroupRow Value))
    → IsSortedBy (λ a b. is_lt (row_order sorts a b)) rows → AreApart value_cmp rows
    → IsStrictlySortedBy (row_order sorts) rows
unfolding IsStrictlySortedBy
strictly sorts [] up apart = tt
strictly sorts (row ∷ rows) up apart =
    sorted_from_all_adjacent (row_total sorts) (row ∷ rows) row (λ k next.
    before_next sorts (get_or (row ∷ rows) k row) (get_or (row ∷ rows) (k + 1) row)
    (up k row (omega arith) next) (differ_at (row ∷ rows) k row apart next))

all_agree : (sorts : List SortKey) (a : GroupRow Value) (rows : List (GroupRow Value))
    → ((b : GroupRow Value) → Contains rows b → HaveSameNulls a b)
    → AllByRecursion (λ b. row_order sorts a b ≡ Less) rows
    → AllByRecursion (λ b. report.row_cmp value_cmp sorts a b ≡ Less) rows
all_agree sorts a [] same less = tt
all_agree sorts a (b ∷ rows) same less = (
  same_order sorts a b (same b (contains_here b rows)) ∙ less.0,
  all_agree sorts a rows (λ c in_c. same c (contains_later b rows c in_c)) less.1,
)

agreed : (sorts : List SortKey) (rows : List (GroupRow Value))
    → ((a b : GroupRow Value) → Contains rows a → Contains rows b → HaveSameNulls a b)
    → IsStrictlySortedBy (row_order sorts) rows → AreInOrder value_cmp sorts rows
unfolding IsStrictlySortedBy
agreed sorts [] same up = tt
agreed sorts (row ∷ rows) same up = (
  all_agree sorts row rows (λ b c. same row b (contains_here row rows)
      (contains_later row rows b c))
      up.0,
  agreed sorts rows (λ a b in_a in_b. same a b (contains_later row rows a in_a)
      (contains_later row rows b in_b)) up.1,
)

pub in_order : (sorts : List SortKey) (rows : List (GroupRow Value))
    → IsSortedBy (λ a b. is_lt (row_order sorts a b)) rows → AreApart value_cmp rows
    → ((a b : GroupRow Value) → Contains rows a → Contains rows b → numbers_in a ≡ numbers_in b)
    → AreInOrder value_cmp sorts rows
in_order sorts rows up apart same = agreed sorts rows same (strictly sorts rows up apart)
