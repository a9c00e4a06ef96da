-- The order of rows is an order, it tells rows with different keys apart, and for the rows of one
-- group it is that of the report.
use Rattle.std.{proofs.Common.{◌≡◌, ◌<◌, ◌<ℤ◌, ◌+◌, ℕ, ℤ, pos, zero, suc, add-one, true≢false, List, [], ◌∷◌, Option, Some, None, length, drop, arith, ap, get_or, map, sym, subst, refl, ◌∙◌}, proofs.lemmas.Cmp.{back_total, int_cmp_total, nat_cmp_total, on_total, then_total}, proofs.Math.Dec.ltb, proofs.Math.Seq.drop-cons, proofs.lemmas.Bool.lt-ltb, proofs.lemmas.Float.T_from_true, proofs.lemmas.List.drop_all, specs.Cmp.{IsTotalOrder, int_cmp_is, int_ranks, ranks}, specs.Cmp.Lexicographic.{slice_cmp, options_total}, specs.List.range_with_len, specs.Option.{is_some, option_cmp}, specs.Ordering.{MatchOrdering, int_cmp, nat_cmp, ordering_then}, specs.declared.cmp.Ordering.Ordering, specs.declared.cmp.Ordering.TheVariants.{Less, Equal, Greater}, specs.Int.Signed.lt_z_yes}
use Rattle.star_schema.specs.{declared.group.GroupColumn.GroupColumn, declared.group.Direction.Direction, declared.group.Direction.TheVariants.Ascending, declared.group.Direction.TheVariants.Descending, declared.group.SortKey.SortKey, Groups.GroupRow as Row, Order.key_cmp}
use Rattle.star_program.specs.{declared.key.KeyValue.KeyValue, declared.key.KeyValue.TheVariants.Number, declared.key.KeyValue.TheVariants.Code, Keys.key_value_cmp}
use Rattle.star_outcome.specs.Private.RowOrder.{all_sorts, column_order, directed_order, key_sort, row_order, sort_order}
use Rattle.star_schema.specs.declared.group.GroupColumn.TheVariants as column
use Rattle.star_schema.specs.Order as report

-- ---- an order

-- naturals as integers
same_cmp : (m n : ℕ) → int_cmp (pos m) (pos n) ≡ nat_cmp m n
same_cmp m n = sym (int_cmp_is (pos m) (pos n) (nat_cmp m n) (by (nat_cmp m n) (ranks m n)))
  where
    by : (o : Ordering) → MatchOrdering o (m < n) (m ≡ n) (n < m)
        → MatchOrdering o (pos m <ℤ pos n) (pos m ≡ pos n) (pos n <ℤ pos m)
    by Less h = lt_z_yes (T_from_true (ltb m n) (lt-ltb m n h))
    by Equal h = ap pos h
    by Greater h = lt_z_yes (T_from_true (ltb n m) (lt-ltb n m h))

-- a key by its kind, and then by its number
abbrev kind : Option KeyValue → ℕ
kind (Some (Number x)) = 0
kind (Some (Code n)) = 1
kind None = 2

abbrev number : Option KeyValue → ℤ
number (Some (Number x)) = x
number (Some (Code n)) = pos n
number None = pos 0

by_kind : (a b : Option KeyValue) → ordering_then (nat_cmp (kind a) (kind b))
    (int_cmp (number a) (number b)) ≡ key_cmp key_value_cmp a b
by_kind (Some (Number x)) (Some (Number y)) = refl
by_kind (Some (Number x)) (Some (Code n)) = refl
by_kind (Some (Code m)) (Some (Number y)) = refl
by_kind (Some (Code m)) (Some (Code n)) = same_cmp m n
by_kind (Some (Number x)) None = refl
by_kind (Some (Code m)) None = refl
by_kind None (Some (Number y)) = refl
by_kind None (Some (Code n)) = refl
by_kind None None = refl

key_total : IsTotalOrder (key_cmp key_value_cmp)
key_total = subst IsTotalOrder (λ i a b. by_kind a b i)
    (then_total (on_total kind nat_cmp_total) (on_total number int_cmp_total))

column_total : (c : GroupColumn) → IsTotalOrder (column_order c)
column_total (column.Key index) =
    on_total (λ (row : Row KeyValue). get_or row.keys index None) key_total
column_total (column.Aggregate index) =
    on_total (λ (row : Row KeyValue). get_or row.totals index None) (options_total int_cmp_total)

directed_total : (c : GroupColumn) (d : Direction) → IsTotalOrder (directed_order c d)
directed_total c Ascending = column_total c
directed_total c Descending = back_total (column_total c)

pub row_total : (sorts : List SortKey) → IsTotalOrder (row_order sorts)
row_total [] = record { antisymm = λ a b. refl; trans = λ a b c p q. p; congr = λ a b c p. refl }
row_total (sort ∷ sorts) = then_total (directed_total sort.column sort.direction) (row_total sorts)

-- ---- the keys of a row, one after another

keys_by_index : (n i : ℕ) (a b : Row KeyValue) → length a.keys ≡ i + n → length b.keys ≡ i + n
    → row_order (map key_sort (range_with_len i n)) a b
    ≡ slice_cmp (key_cmp key_value_cmp) (drop i a.keys) (drop i b.keys)
keys_by_index zero i a b long_a long_b =
    λ j. slice_cmp (key_cmp key_value_cmp) (sym (drop_all i a.keys (omega (arith, long_a))) j)
    (sym (drop_all i b.keys (omega (arith, long_b))) j)
keys_by_index (suc n) i a b long_a long_b =
    let rest = keys_by_index n (i + 1) a b (omega (arith, long_a)) (omega (arith, long_b)) in
    let here = sort_order (key_sort i) a b in
    ap (ordering_then here) rest
    ∙ (λ j. ordering_then here (slice_cmp (key_cmp key_value_cmp) (drop (add-one i j) a.keys)
    (drop (add-one i j) b.keys)))
    ∙ (λ j. slice_cmp (key_cmp key_value_cmp)
    (sym (drop-cons a.keys i None (omega (arith, long_a))) j)
    (sym (drop-cons b.keys i None (omega (arith, long_b))) j))

-- ---- only rows with the same keys are level

both_equal : (a b : Ordering) → ordering_then a b ≡ Equal → (a ≡ Equal) × (b ≡ Equal)
both_equal Less b e = cc e
both_equal Equal b e = (refl, e)
both_equal Greater b e = cc e

key_level : (a b : Option KeyValue) → key_cmp key_value_cmp a b ≡ Equal → a ≡ b
key_level (Some (Number x)) (Some (Number y)) e = ap (λ z. Some (Number z))
    (subst (λ o. MatchOrdering o (x <ℤ y) (x ≡ y) (y <ℤ x)) e (int_ranks x y))
key_level (Some (Number x)) (Some (Code n)) e = cc e
key_level (Some (Code m)) (Some (Number y)) e = cc e
key_level (Some (Code m)) (Some (Code n)) e = ap (λ k. Some (Code k))
    (subst (λ o. MatchOrdering o (m < n) (m ≡ n) (n < m)) e (ranks m n))
key_level (Some (Number x)) None e = cc e
key_level (Some (Code m)) None e = cc e
key_level None (Some (Number y)) e = cc e
key_level None (Some (Code n)) e = cc e
key_level None None e = refl

keys_level : (xs ys : List (Option KeyValue)) → slice_cmp (key_cmp key_value_cmp) xs ys ≡ Equal
    → xs ≡ ys
keys_level [] [] e = refl
keys_level [] (b ∷ ys) e = cc e
keys_level (a ∷ xs) [] e = cc e
keys_level (a ∷ xs) (b ∷ ys) e =
    let both = both_equal (key_cmp key_value_cmp a b) (slice_cmp (key_cmp key_value_cmp) xs ys) e in
    λ i. key_level a b both.0 i ∷ keys_level xs ys both.1 i

-- ---- the rows of one group

-- rows of one group: each has the group's keys, and each aggregate is NULL in both or in neither
pub record AreAlike (count : ℕ) (a b : Row KeyValue) : Type 0 where
  pub first : length a.keys ≡ count
  pub second : length b.keys ≡ count
  pub nulls : (index : ℕ)
      → is_some (get_or a.totals index None) ≡ is_some (get_or b.totals index None)

all_keys : (count : ℕ) (a b : Row KeyValue) → AreAlike count a b
    → row_order (all_sorts [] count) a b ≡ slice_cmp (key_cmp key_value_cmp) a.keys b.keys
all_keys count a b alike =
    keys_by_index count 0 a b (omega (arith, alike.first)) (omega (arith, alike.second))

pub rows_level : (sorts : List SortKey) (count : ℕ) (a b : Row KeyValue) → AreAlike count a b
    → row_order (all_sorts sorts count) a b ≡ Equal → a.keys ≡ b.keys
rows_level [] count a b alike e = keys_level a.keys b.keys (sym (all_keys count a b alike) ∙ e)
rows_level (sort ∷ sorts) count a b alike e = rows_level sorts count a b alike
    (both_equal (sort_order sort a b) (row_order (all_sorts sorts count) a b) e).1

same_total : (x y : Option ℤ) → is_some x ≡ is_some y
    → report.total_cmp x y ≡ option_cmp int_cmp x y
same_total (Some x) (Some y) e = refl
same_total (Some x) None e = absurd (true≢false e)
same_total None (Some y) e = absurd (true≢false (sym e))
same_total None None e = refl

same_column : (c : GroupColumn) (a b : Row KeyValue)
    → ((index : ℕ) → is_some (get_or a.totals index None) ≡ is_some (get_or b.totals index None))
    → report.column_cmp key_value_cmp c a b ≡ column_order c a b
same_column (column.Key index) a b nulls = refl
same_column (column.Aggregate index) a b nulls =
    same_total (get_or a.totals index None) (get_or b.totals index None) (nulls index)

same_directed : (c : GroupColumn) (d : Direction) {count : ℕ} (a b : Row KeyValue)
    → AreAlike count a b → report.sort_cmp key_value_cmp (record { column = c; direction = d }) a b
    ≡ directed_order c d a b
same_directed c Ascending a b alike = same_column c a b alike.nulls
same_directed c Descending a b alike = same_column c b a (λ index. sym (alike.nulls index))

pub same_order : (sorts : List SortKey) (count : ℕ) (a b : Row KeyValue) → AreAlike count a b
    → report.row_cmp key_value_cmp sorts a b ≡ row_order (all_sorts sorts count) a b
same_order [] count a b alike = sym (all_keys count a b alike)
same_order (sort ∷ sorts) count a b alike =
    λ i. ordering_then (same_directed sort.column sort.direction a b alike i)
    (same_order sorts count a b alike i)
