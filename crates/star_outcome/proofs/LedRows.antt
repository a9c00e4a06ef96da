-- Rows sorted by their leads ascend by the order of rows.
use Rattle.std.{proofs.Common.{◌≡◌, ◌+◌, ◌<◌, Bool, true, false, true≢false, ◌<ℤ◌, ◌-ℤ◌, ℕ, ℤ, negsuc, List, [], ◌∷◌, Option, Some, None, length, get_or, map, arith, ap, sym, subst, refl, ◌∙◌}, proofs.lemmas.Bool.or_parts, proofs.lemmas.Bool.Decides.Decides-int_eq, proofs.lemmas.Int.{ints, clamps}, proofs.lemmas.Cmp.{int_cmp_total, on_total, then_total}, proofs.lemmas.List.ext_get_or, proofs.lemmas.List.Elements.Contains-get_or, proofs.lemmas.List.FromFn.{get_or-map-range_with_len, length-map-range_with_len}, proofs.lemmas.List.Sorted.{Contains-permutation, IsPermutation-map, IsPermutation-sym}, proofs.lemmas.Simd.map-map, specs.Prelude.{IsPermutation, not, int_lt, ◌||◌, if◌then◌else◌}, specs.Ordering.{MatchOrdering, int_cmp, int_eq, is_lt, nat_cmp, ordering_then}, specs.Cmp.{IsTotalOrder, int_cmp_is, int_ranks, nat_cmp_is}, specs.List.{Contains, range_with_len}, specs.List.Sorted.IsSortedBy, specs.Option.option_cmp, specs.declared.cmp.Ordering.Ordering, specs.declared.cmp.Ordering.TheVariants.{Less, Equal, Greater}}
use Rattle.star_schema.specs.{declared.group.GroupColumn.GroupColumn, declared.group.Direction.Direction, declared.group.Direction.TheVariants.Ascending, declared.group.Direction.TheVariants.Descending, declared.group.SortKey.SortKey, Groups.GroupRow as Row, Order.key_cmp}
use Rattle.star_common.proofs.Members.{from_contains_map}
use Rattle.star_program.specs.{declared.key.KeyValue.KeyValue, Keys.key_value_cmp}
use Rattle.star_group.specs.StoreRows.{row_at}
use Rattle.star_outcome.{specs.Private.Leads.{all_lead, code_lead, code_lead_end, column_lead, directed, first_lead, greatest_lead, is_end, key_lead, least_lead, led_at, led_cmp, next_lead, null_lead, number_lead, total_lead}, specs.declared.outcome.leads.Led.Led, specs.Private.RowOrder.{column_order, directed_order, row_order, sort_order}, proofs.RowOrders.row_total, proofs.SortedRows.sorted_under}
use Rattle.star_schema.specs.declared.group.GroupColumn.TheVariants as column
use Rattle.star_program.specs.declared.key.KeyValue.TheVariants as key

-- ---- leads decide nothing that keys and aggregates don't

coarse : (u v : ℤ) (o : Ordering) → (u <ℤ v → o ≡ Less) → (v <ℤ u → o ≡ Greater)
    → ordering_then (int_cmp u v) o ≡ o
coarse u v o less greater = by (int_cmp u v) (int_ranks u v)
  where
    by : (p : Ordering) → MatchOrdering p (u <ℤ v) (u ≡ v) (v <ℤ u) → ordering_then p o ≡ o
    by Less h = sym (less h)
    by Equal h = refl
    by Greater h = sym (greater h)

below : (u v : ℤ) → u <ℤ v → ordering_then (int_cmp u v) Less ≡ Less
below u v h = coarse u v Less (λ k. refl) (λ k. absurd (omega (arith, ints, h, k)))

above : (u v : ℤ) → v <ℤ u → ordering_then (int_cmp u v) Greater ≡ Greater
above u v h = coarse u v Greater (λ k. absurd (omega (arith, ints, h, k))) (λ k. refl)

numbers_coarse : (x y : ℤ)
    → ordering_then (int_cmp (number_lead x) (number_lead y)) (int_cmp x y) ≡ int_cmp x y
numbers_coarse x y = coarse (number_lead x) (number_lead y) (int_cmp x y)
    (λ h. sym (int_cmp_is x y Less (omega (arith, ints, clamps, h))))
    (λ h. sym (int_cmp_is x y Greater (omega (arith, ints, clamps, h))))

codes_coarse : (m n : ℕ)
    → ordering_then (int_cmp (code_lead m) (code_lead n)) (nat_cmp m n) ≡ nat_cmp m n
codes_coarse m n = coarse (code_lead m) (code_lead n) (nat_cmp m n)
    (λ h. by Less (omega (arith, ints, clamps, h)))
    (λ h. by Greater (omega (arith, ints, clamps, h)))
  where
    by : (o : Ordering) → MatchOrdering o (m < n) (m ≡ n) (n < m) → nat_cmp m n ≡ o
    by o h = sym (nat_cmp_is m n o h)

keys_coarse : (a b : Option KeyValue) → ordering_then (int_cmp (key_lead a) (key_lead b))
    (key_cmp key_value_cmp a b) ≡ key_cmp key_value_cmp a b
keys_coarse (Some (key.Number x)) (Some (key.Number y)) = numbers_coarse x y
keys_coarse (Some (key.Number x)) (Some (key.Code n)) =
    below (number_lead x) (code_lead n) (omega (arith, ints, clamps))
keys_coarse (Some (key.Number x)) None =
    below (number_lead x) all_lead (omega (arith, ints, clamps))
keys_coarse (Some (key.Code m)) (Some (key.Number y)) =
    above (code_lead m) (number_lead y) (omega (arith, ints, clamps))
keys_coarse (Some (key.Code m)) (Some (key.Code n)) = codes_coarse m n
keys_coarse (Some (key.Code m)) None = below (code_lead m) all_lead (omega (arith, ints, clamps))
keys_coarse None (Some (key.Number y)) =
    above all_lead (number_lead y) (omega (arith, ints, clamps))
keys_coarse None (Some (key.Code n)) = above all_lead (code_lead n) (omega (arith, ints, clamps))
keys_coarse None None = refl

totals_coarse : (x y : Option ℤ) → ordering_then (int_cmp (total_lead x) (total_lead y))
    (option_cmp int_cmp x y) ≡ option_cmp int_cmp x y
totals_coarse (Some x) (Some y) = numbers_coarse x y
totals_coarse (Some x) None = above (number_lead x) null_lead (omega (arith, ints, clamps))
totals_coarse None (Some y) = below null_lead (number_lead y) (omega (arith, ints, clamps))
totals_coarse None None = refl

column_coarse : (c : GroupColumn) (a b : Row KeyValue)
    → ordering_then (int_cmp (column_lead c a) (column_lead c b)) (column_order c a b)
    ≡ column_order c a b
column_coarse (column.Key index) a b =
    keys_coarse (get_or a.keys index None) (get_or b.keys index None)
column_coarse (column.Aggregate index) a b =
    totals_coarse (get_or a.totals index None) (get_or b.totals index None)

-- what is taken off the same number, the other way round
taken_off : (x y : ℤ) → int_cmp (directed Descending x) (directed Descending y) ≡ int_cmp y x
taken_off x y = sym (int_cmp_is (directed Descending x) (directed Descending y) (int_cmp y x)
    (by (int_cmp y x) (int_ranks y x)))
  where
    by : (o : Ordering) → MatchOrdering o (y <ℤ x) (y ≡ x) (x <ℤ y)
        → MatchOrdering o ((negsuc 0 -ℤ x) <ℤ (negsuc 0 -ℤ y)) ((negsuc 0 -ℤ x) ≡ (negsuc 0 -ℤ y))
        ((negsuc 0 -ℤ y) <ℤ (negsuc 0 -ℤ x))
    by Less h = let less : y <ℤ x = h in omega (arith, ints, less)
    by Equal h = ap (λ z. negsuc 0 -ℤ z) (sym h)
    by Greater h = let less : x <ℤ y = h in omega (arith, ints, less)

directed_coarse : (c : GroupColumn) (d : Direction) (a b : Row KeyValue)
    → ordering_then (int_cmp (directed d (column_lead c a)) (directed d (column_lead c b)))
    (directed_order c d a b) ≡ directed_order c d a b
directed_coarse c Ascending a b = column_coarse c a b
directed_coarse c Descending a b =
    ap (λ o. ordering_then o (column_order c b a)) (taken_off (column_lead c a) (column_lead c b))
    ∙ column_coarse c b a

-- an order that a second one refines, before a third
coarse_before : (o n p : Ordering) → ordering_then o n ≡ n
    → ordering_then o (ordering_then n p) ≡ ordering_then n p
coarse_before Less n p e = ap (λ m. ordering_then m p) e
coarse_before Equal n p e = refl
coarse_before Greater n p e = ap (λ m. ordering_then m p) e

first_coarse : (sorts : List SortKey) (a b : Row KeyValue)
    → ordering_then (int_cmp (first_lead sorts a) (first_lead sorts b)) (row_order sorts a b)
    ≡ row_order sorts a b
first_coarse [] a b = refl
first_coarse (sort ∷ sorts) a b =
    coarse_before (int_cmp (first_lead (sort ∷ sorts) a) (first_lead (sort ∷ sorts) b))
    (sort_order sort a b) (row_order sorts a b) (directed_coarse sort.column sort.direction a b)

-- ---- leads that are no ends decide all

not_end : (v : ℤ) → is_end v ≡ false
    → (least_lead <ℤ v) × ((v ≡ greatest_lead → ⊥) × (v ≡ code_lead_end → ⊥))
not_end v e =
    let first = or_parts (not (int_lt least_lead v))
    (int_eq v greatest_lead || int_eq v code_lead_end) e in
    let second = or_parts (int_eq v greatest_lead) (int_eq v code_lead_end) first.1 in (
      grind (arith, ints),
      (
        (λ is. true≢false (sym ((Decides-int_eq v greatest_lead).1 is) ∙ second.0)),
        (λ is. true≢false (sym ((Decides-int_eq v code_lead_end).1 is) ∙ second.1)),
      ),
    )

numbers_exact : (x y : ℤ) → is_end (number_lead x) ≡ false → number_lead x ≡ number_lead y
    → int_cmp x y ≡ Equal
numbers_exact x y end e =
    let low = (not_end (number_lead x) end).0 in
    let high = (not_end (number_lead x) end).1.0 in
    let same : x ≡ y = grind (arith, ints, clamps) in
    sym (int_cmp_is x y Equal same)

codes_exact : (m n : ℕ) → is_end (code_lead m) ≡ false → code_lead m ≡ code_lead n
    → nat_cmp m n ≡ Equal
codes_exact m n end e =
    let last = (not_end (code_lead m) end).1.1 in
    let same : m ≡ n = grind (arith, ints, clamps) in
    sym (nat_cmp_is m n Equal same)

column_exact : (c : GroupColumn) (a b : Row KeyValue) → is_end (column_lead c a) ≡ false
    → column_lead c a ≡ column_lead c b → column_order c a b ≡ Equal
column_exact (column.Key index) a b = keys (get_or a.keys index None) (get_or b.keys index None)
  where
    keys : (a b : Option KeyValue) → is_end (key_lead a) ≡ false → key_lead a ≡ key_lead b
        → key_cmp key_value_cmp a b ≡ Equal
    keys (Some (key.Number x)) (Some (key.Number y)) end e = numbers_exact x y end e
    keys (Some (key.Number x)) (Some (key.Code n)) end e = absurd (omega (arith, ints, clamps, e))
    keys (Some (key.Number x)) None end e = absurd (omega (arith, ints, clamps, e))
    keys (Some (key.Code m)) (Some (key.Number y)) end e = absurd (omega (arith, ints, clamps, e))
    keys (Some (key.Code m)) (Some (key.Code n)) end e = codes_exact m n end e
    keys (Some (key.Code m)) None end e = absurd (omega (arith, ints, clamps, e))
    keys None (Some (key.Number y)) end e = absurd (omega (arith, ints, clamps, e))
    keys None (Some (key.Code n)) end e = absurd (omega (arith, ints, clamps, e))
    keys None None end e = refl
column_exact (column.Aggregate index) a b =
    totals (get_or a.totals index None) (get_or b.totals index None)
  where
    totals : (x y : Option ℤ) → is_end (total_lead x) ≡ false → total_lead x ≡ total_lead y
        → option_cmp int_cmp x y ≡ Equal
    totals (Some x) (Some y) end e = numbers_exact x y end e
    totals (Some x) None end e = absurd (omega (arith, ints, clamps, e))
    totals None (Some y) end e = absurd (omega (arith, ints, clamps, e))
    totals None None end e = refl

-- ---- both leads

same : (x y : ℤ) → int_cmp x y ≡ Equal → x ≡ y
same x y e = subst (λ o. MatchOrdering o (x <ℤ y) (x ≡ y) (y <ℤ x)) e (int_ranks x y)

directed_same : (d : Direction) (x y : ℤ) → int_cmp (directed d x) (directed d y) ≡ Equal → x ≡ y
directed_same Ascending x y e = same x y e
directed_same Descending x y e = sym (same y x (sym (taken_off x y) ∙ e))

-- the first leads are level
abbrev beside : Bool → List SortKey → Row KeyValue → ℤ
beside end sorts row = if end then null_lead else first_lead sorts row

next_coarse : (sort : SortKey) (sorts : List SortKey) (a b : Row KeyValue) (x y : Bool)
    → is_end (column_lead sort.column a) ≡ x → is_end (column_lead sort.column b) ≡ y
    → column_lead sort.column a ≡ column_lead sort.column b
    → ordering_then (int_cmp (beside x sorts a) (beside y sorts b)) (row_order (sort ∷ sorts) a b)
    ≡ row_order (sort ∷ sorts) a b
next_coarse sort sorts a b true true p q e = refl
next_coarse sort sorts a b false false p q e =
    subst (λ o. ordering_then (int_cmp (first_lead sorts a) (first_lead sorts b))
    (ordering_then o (row_order sorts a b)) ≡ ordering_then o (row_order sorts a b))
    (sym (level sort.direction)) (first_coarse sorts a b)
  where
    level : (d : Direction) → directed_order sort.column d a b ≡ Equal
    level Ascending = column_exact sort.column a b p e
    level Descending = column_exact sort.column b a q (sym e)
next_coarse sort sorts a b true false p q e = absurd (true≢false (sym p ∙ ap is_end e ∙ q))
next_coarse sort sorts a b false true p q e = absurd (true≢false (sym q ∙ ap is_end (sym e) ∙ p))

both_coarse : (o n p : Ordering) → ordering_then o p ≡ p → (o ≡ Equal → ordering_then n p ≡ p)
    → ordering_then (ordering_then o n) p ≡ p
both_coarse Less n p e next = e
both_coarse Equal n p e next = next refl
both_coarse Greater n p e next = e

led_finer : (sorts : List SortKey) (rows : List (Row KeyValue)) (i j : ℕ)
    → led_cmp sorts rows (led_at sorts rows i) (led_at sorts rows j)
    ≡ row_order sorts (row_at rows i) (row_at rows j)
led_finer [] rows i j = refl
led_finer (sort ∷ sorts) rows i j =
    let a = row_at rows i in
    let b = row_at rows j in
    both_coarse (int_cmp (first_lead (sort ∷ sorts) a) (first_lead (sort ∷ sorts) b))
    (int_cmp (next_lead (sort ∷ sorts) a) (next_lead (sort ∷ sorts) b))
    (row_order (sort ∷ sorts) a b) (first_coarse (sort ∷ sorts) a b)
    (λ e. next_coarse sort sorts a b (is_end (column_lead sort.column a))
    (is_end (column_lead sort.column b)) refl refl
    (directed_same sort.direction (column_lead sort.column a) (column_lead sort.column b) e))

-- ---- the rows of a group

pub led_total : (sorts : List SortKey) (rows : List (Row KeyValue))
    → IsTotalOrder (led_cmp sorts rows)
led_total sorts rows = then_total
    (then_total (on_total (λ (led : Led). led.lead) int_cmp_total)
    (on_total (λ (led : Led). led.next) int_cmp_total))
    (on_total (λ (led : Led). row_at rows led.number) (row_total sorts))

numbered : (rows : List (Row KeyValue)) → map (row_at rows) (range_with_len 0 (length rows)) ≡ rows
numbered rows =
    let none : Row KeyValue = record { keys = []; totals = [] } in
    let long = length-map-range_with_len (row_at rows) 0 (length rows) in
    ext_get_or none (map (row_at rows) (range_with_len 0 (length rows))) rows long
    (λ i h. get_or-map-range_with_len (row_at rows) 0 (length rows) i i none
    (omega (arith, h, long)) (omega arith))

module _ (sorts : List SortKey) (rows : List (Row KeyValue)) (all : List Led)
    (moved : IsPermutation (map (led_at sorts rows) (range_with_len 0 (length rows))) all) where
  abbrev pub row_of : Led → Row KeyValue
  row_of led = row_at rows led.number

  -- each has the leads of its row
  its_own : (led : Led) → Contains all led → led_at sorts rows led.number ≡ led
  its_own led c =
      let made = map (led_at sorts rows) (range_with_len 0 (length rows)) in
      let from = from_contains_map (led_at sorts rows) (range_with_len 0 (length rows)) led
      (Contains-permutation all made led (IsPermutation-sym made all moved) c) in
      ap (λ (l : Led). led_at sorts rows l.number) (sym from.2) ∙ from.2

  by_row : (a b : Led) → Contains all a → Contains all b
      → led_cmp sorts rows a b ≡ row_order sorts (row_of a) (row_of b)
  by_row a b in_a in_b =
      (λ i. led_cmp sorts rows (sym (its_own a in_a) i) (sym (its_own b in_b) i))
      ∙ led_finer sorts rows a.number b.number

  pub rows_moved : IsPermutation rows (map row_of all)
  rows_moved = subst (λ xs. IsPermutation xs (map row_of all))
      (map-map row_of (led_at sorts rows) (range_with_len 0 (length rows)) ∙ numbered rows)
      (IsPermutation-map row_of (map (led_at sorts rows)
      (range_with_len 0 (length rows))) all moved)

  pub rows_ascend : IsSortedBy (λ a b. is_lt (led_cmp sorts rows a b)) all
      → IsSortedBy (λ a b. is_lt (row_order sorts a b)) (map row_of all)
  rows_ascend up = sorted_under row_of (λ a b. is_lt (row_order sorts a b)) all
      (λ k d from next.
      ap is_lt (sym (by_row (get_or all (k + 1) d) (get_or all k d)
      (Contains-get_or all (k + 1) d next) (Contains-get_or all k d (omega (arith, next)))))
      ∙ up k d from next)
