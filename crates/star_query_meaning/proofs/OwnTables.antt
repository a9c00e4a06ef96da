-- FROM names lineorder and the dimensions that are joined, in some order.
use Rattle.std.{proofs.Common.{◌≡◌, ◌∙◌, Bool, true, false, true≢false, ◌||◌, inl, inr, List, [], ◌∷◌, ◌++◌, Option, Some, None, nat_eq, refl, sym, ap, subst, arith}, proofs.lemmas.List.Sorted.{IsPermutation-refl, IsPermutation-cons, IsPermutation-middle, IsPermutation-sym, IsPermutation-trans}, proofs.lemmas.Grind.{flat_map-append, common_steps}, proofs.lemmas.List.Folds.list_any-append, proofs.lemmas.Bool.or_parts, specs.Cmp.Lexicographic.pointwise, specs.List.{AllByRecursion, IsDistinct}, specs.List.Sorted.IsPermutation, specs.Option.option_to_list}
use Rattle.star_schema.{specs.declared.table.TableId.TheVariants.{Date, Customer, Supplier, Part, Lineorder}, specs.declared.column.ColumnId.TheVariants.{DDatekey, CCustkey, SSuppkey, PPartkey, LoOrderkey}, specs.declared.table.TableId.TableId, specs.declared.table.TheConstants.TABLES, specs.declared.column.ColumnId.ColumnId, specs.Schema.{column_of, is_table, table_name, table_of}, proofs.NamesApart.found_named, proofs.Same.{table_same, table_itself}}
use Rattle.star_query.specs.Tree.{Condition, Name, Test}
use Rattle.star_plan.{specs.Joins.{Pair, join_by, join_of, joins_of, pairs_of, where_pairs}, specs.declared.tree.Join.Join, specs.Names.{column_at, has_name, table_at, table_called}, specs.Sound.{in_scope, joins_table}, specs.Uses.where_uses, specs.Private.Stages.condition_uses, specs.WellNamed.{IsThere, is_in_from, same_name}, proofs.Known.{Reaches, each_left, each_right}, proofs.Options.first_or_second}
use Rattle.star_query_meaning.{specs.Rows.tables_of, proofs.Choices.{AreApart, ors_turned, dimensions_of, is_among}, proofs.OwnConditions.join_made}
use Rattle.star_query.specs.Tree as tree

-- ---- lists of tables

same_test : (a b : Bool) → (a ≡ true → b ≡ true) → (b ≡ true → a ≡ true) → a ≡ b
same_test true b f g = sym (f refl)
same_test false true f g = g refl
same_test false false f g = refl

-- where a table stands in a list
record Cut (t : TableId) (tables : List TableId) : Type 0 where
  front : List TableId
  back : List TableId
  whole : tables ≡ front ++ t ∷ back

cut_at : (t : TableId) (tables : List TableId) → is_among t tables ≡ true → Cut t tables
cut_at t [] e = absurd (cc)
cut_at t (u ∷ us) e = by (is_table t u) refl e (cut_at t us)
  where
    by : (b : Bool) → is_table t u ≡ b → (b || is_among t us) ≡ true
        → (is_among t us ≡ true → Cut t us) → Cut t (u ∷ us)
    by true h e rest = record { front = []; back = us; whole = λ i. sym (table_same t u h) i ∷ us }
    by false h e rest = let c = rest e in
        record { front = u ∷ c.front; back = c.back; whole = ap (λ l. u ∷ l) c.whole }

middle_apart : (t : TableId) (front back : List TableId) → AreApart (front ++ t ∷ back)
    → (is_among t (front ++ back) ≡ false) × AreApart (front ++ back)
middle_apart t [] back apart = apart
middle_apart t (u ∷ front) back apart =
    grind (arith, common_steps, middle_apart t front back apart.1, back, list_any-append, or_parts)

middle_among : (u t : TableId) (front back : List TableId)
    → is_among u (front ++ t ∷ back) ≡ (is_table u t || is_among u (front ++ back))
middle_among u t front back = grind (arith, list_any-append, back, ors_turned)

-- two lists with no table twice, and with the same tables
same_tables : (xs ys : List TableId) → AreApart xs → AreApart ys
    → ((t : TableId) → is_among t xs ≡ is_among t ys) → IsPermutation xs ys
same_tables [] [] a b same = IsPermutation-refl []
same_tables [] (y ∷ ys) a b same =
    absurd (true≢false (sym (ap (λ c. c || is_among y ys) (table_itself y)) ∙ sym (same y)))
same_tables (x ∷ xs) ys a b same =
    let there : is_among x ys ≡ true =
    sym (same x) ∙ ap (λ c. c || is_among x xs) (table_itself x) in
    let c = cut_at x ys there in
    let apart = middle_apart x c.front c.back (subst AreApart c.whole b) in
    let others : (t : TableId) → is_among t xs ≡ is_among t (c.front ++ c.back) =
    λ t. by (c.front ++ c.back) t (is_table t x) refl a.0 apart.0
    (same t ∙ ap (is_among t) c.whole ∙ middle_among t x c.front c.back) in
    let rest = same_tables xs (c.front ++ c.back) a.1 apart.1 others in
    subst (IsPermutation (x ∷ xs)) (sym c.whole)
    (IsPermutation-trans (x ∷ xs) (x ∷ (c.front ++ c.back)) (c.front ++ x ∷ c.back)
    (IsPermutation-cons x xs (c.front ++ c.back) rest)
    (IsPermutation-sym (c.front ++ x ∷ c.back) (x ∷ (c.front ++ c.back))
    (IsPermutation-middle c.front x c.back)))
  where
    by : (zs : List TableId) (t : TableId) (p : Bool) → is_table t x ≡ p → is_among x xs ≡ false
        → is_among x zs ≡ false → (is_table t x || is_among t xs) ≡ (is_table t x || is_among t zs)
        → is_among t xs ≡ is_among t zs
    by zs t true h none free e = let is = table_same t x h in
        ap (λ u. is_among u xs) is ∙ none ∙ sym free ∙ ap (λ u. is_among u zs) (sym is)
    by zs t false h none free e =
        sym (ap (λ p. p || is_among t xs) h) ∙ e ∙ ap (λ p. p || is_among t zs) h

-- ---- the names of FROM

same_names : (t u : TableId) → pointwise nat_eq (table_name u) (table_name t) ≡ is_table t u
unfolding table_name
same_names Date Date = refl
same_names Date _ = refl
same_names Customer Date = refl
same_names Customer _ = refl
same_names Supplier Date = refl
same_names Supplier _ = refl
same_names Part Date = refl
same_names Part _ = refl
same_names Lineorder Date = refl
same_names Lineorder _ = refl

-- what a name stands for has this name
table_named : (n : Name) (u : TableId) → table_at n ≡ Some u → table_name u ≡ n.text
unfolding table_called
table_named n u e = found_named table_name n.text TABLES u e

abbrev pub AreTables : List Name → Type 0
AreTables names = AllByRecursion (λ n. IsThere (table_at n)) names

pub among_named : (names : List Name) (t : TableId) → AreTables names
    → is_among t (tables_of names) ≡ has_name names (table_name t)
unfolding has_name
among_named [] t all = refl
among_named (n ∷ ns) t all =
    let u = all.0.0 in
    let here : is_table t u ≡ pointwise nat_eq n.text (table_name t) =
    sym (same_names t u) ∙ ap (λ text. pointwise nat_eq text (table_name t))
    (table_named n u all.0.1) in
    (λ i. is_among t (option_to_list (all.0.1 i) ++ tables_of ns))
    ∙ (λ i. here i || among_named ns t all.1 i)

not_again : (n : Name) (u : TableId) (ns : List Name) → table_at n ≡ Some u → AreTables ns
    → AllByRecursion (λ m. same_name n m ≡ false) ns → is_among u (tables_of ns) ≡ false
not_again n u [] e all others = refl
not_again n u (m ∷ ms) e all others =
    let v = all.0.0 in
    (λ i. is_among u (option_to_list (all.0.1 i) ++ tables_of ms))
    ∙ (λ i. by (is_table u v) refl i || not_again n u ms e all.1 others.1 i)
  where
    by : (b : Bool) → is_table u all.0.0 ≡ b → is_table u all.0.0 ≡ false
    by false h = h
    by true h =
        let v = all.0.0 in
        let texts : same_name n m ≡ pointwise nat_eq (table_name u) (table_name u) =
        λ i. pointwise nat_eq (sym (table_named n u e) i)
        ((sym (table_named m v all.0.1) ∙ ap table_name (sym (table_same u v h))) i) in
        absurd (true≢false (sym (texts ∙ same_names u u ∙ table_itself u) ∙ others.0))

pub named_apart : (names : List Name) → AreTables names → IsDistinct same_name names
    → AreApart (tables_of names)
unfolding IsDistinct
named_apart [] all once = tt
named_apart (n ∷ ns) all once = grind (arith, named_apart ns all.1 once.1, not_again)

-- ---- the dimensions that are joined

pub among_dimensions : (js : List Join) (t : TableId)
    → joins_table js t ≡ is_among t (dimensions_of js)
among_dimensions [] t = refl
among_dimensions (j ∷ js) t = ap (λ b. is_table t (table_of j.key) || b) (among_dimensions js t)

-- each table has a column
column_in : (t : TableId) → (c : ColumnId) × (table_of c ≡ t)
unfolding column_of
column_in Date = (DDatekey, refl)
column_in Customer = (CCustkey, refl)
column_in Supplier = (SSuppkey, refl)
column_in Part = (PPartkey, refl)
column_in Lineorder = (LoOrderkey, refl)

-- the dimension stands in FROM
abbrev pub IsNamed : List Name → Join → Type 0
IsNamed tables j = has_name tables (table_name (table_of j.key)) ≡ true

every_join : (P : Join → Type 0) (ps qs : List Pair) → AllByRecursion P (joins_of ps)
    → AllByRecursion P (joins_of qs) → AllByRecursion P (joins_of (ps ++ qs))
every_join it ps qs a b = grind (arith, common_steps, flat_map-append)

-- a join of two columns of tables in FROM
pair_named : (tables : List Name) (m n : Option ColumnId) → is_in_from tables m ≡ true
    → is_in_from tables n ≡ true
    → AllByRecursion (IsNamed tables) (option_to_list (join_of m n) ++ [])
pair_named tables m n a b = by (join_of m n) refl
  where
    key : (m n : Option ColumnId) (j : Join) → join_of m n ≡ Some j → is_in_from tables m ≡ true
        → is_in_from tables n ≡ true → IsNamed tables j
    key None n j e a b = absurd (cc)
    key (Some c) None j e a b = absurd (cc)
    key (Some c) (Some d) j e a b =
        elim (first_or_second (join_by c d) (join_by d c) j e) [
          | inl first ↦ subst (IsNamed tables) (join_made c d j first) b
          | inr second ↦ subst (IsNamed tables) (join_made d c j second) a
        ]

    by : (o : Option Join) → join_of m n ≡ o
        → AllByRecursion (IsNamed tables) (option_to_list o ++ [])
    by None e = tt
    by (Some j) e = (key m n j e a b, tt)

joins_named : (tables : List Name) (b : Bool) (q : Condition Test)
    → AllByRecursion (λ u. is_in_from tables u.column ≡ true) (condition_uses q)
    → AllByRecursion (IsNamed tables) (joins_of (pairs_of b q))
joins_named tables b (tree.and c d) all = every_join (IsNamed tables) (pairs_of b c) (pairs_of b d)
    (joins_named tables b c (each_left _ (condition_uses c) (condition_uses d) all))
    (joins_named tables b d (each_right _ (condition_uses c) (condition_uses d) all))
joins_named tables b (tree.or c d) all =
    every_join (IsNamed tables) (pairs_of false c) (pairs_of false d)
    (joins_named tables false c (each_left _ (condition_uses c) (condition_uses d) all))
    (joins_named tables false d (each_right _ (condition_uses c) (condition_uses d) all))
joins_named tables b (tree.not c) all = joins_named tables false c all
joins_named tables true (tree.test (tree.pair m n)) all =
    pair_named tables (column_at m) (column_at n) all.0 all.1.0
joins_named tables false (tree.test (tree.pair m n)) all = tt
joins_named tables b (tree.test (tree.comparison c)) all = tt

pub where_named : (tables : List Name) (o : Option (Condition Test))
    → AllByRecursion (λ u. is_in_from tables u.column ≡ true) (where_uses o)
    → AllByRecursion (IsNamed tables) (joins_of (where_pairs o))
where_named tables None all = tt
where_named tables (Some q) all = joins_named tables true q all

named_among : (tables : List Name) (js : List Join) (t : TableId)
    → AllByRecursion (IsNamed tables) js → is_among t (dimensions_of js) ≡ true
    → has_name tables (table_name t) ≡ true
named_among tables [] t all e = absurd (cc)
named_among tables (j ∷ js) t all e =
    by (is_table t (table_of j.key)) refl e (named_among tables js t all.1)
  where
    by : (b : Bool) → is_table t (table_of j.key) ≡ b → (b || is_among t (dimensions_of js)) ≡ true
        → (is_among t (dimensions_of js) ≡ true → has_name tables (table_name t) ≡ true)
        → has_name tables (table_name t) ≡ true
    by true h e rest = subst (λ u. has_name tables (table_name u) ≡ true)
        (sym (table_same t (table_of j.key) h)) all.0
    by false h e rest = rest e

-- FROM names lineorder and the joined dimensions, and nothing else
pub from_tables : (tables : List Name) (js : List Join) → AreTables tables
    → IsDistinct same_name tables → has_name tables (table_name Lineorder) ≡ true
    → Reaches tables js → AllByRecursion (IsNamed tables) js
    → AreApart (Lineorder ∷ dimensions_of js)
    → IsPermutation (tables_of tables) (Lineorder ∷ dimensions_of js)
from_tables tables js there once fact reach named apart =
    same_tables (tables_of tables) (Lineorder ∷ dimensions_of js) (named_apart tables there once)
    apart
    (λ t. among_named tables t there
    ∙ same_test (has_name tables (table_name t)) (is_among t (Lineorder ∷ dimensions_of js))
    (onto t) (back t))
  where
    onto : (t : TableId) → has_name tables (table_name t) ≡ true
        → is_among t (Lineorder ∷ dimensions_of js) ≡ true
    onto t e =
        let c = column_in t in
        let reached : in_scope js (table_of c.0) ≡ true =
        reach c.0 (subst (λ u. has_name tables (table_name u) ≡ true) (sym c.1) e) in
        ap (λ b. is_table t Lineorder || b) (sym (among_dimensions js t))
        ∙ subst (λ u. in_scope js u ≡ true) c.1 reached

    back : (t : TableId) → is_among t (Lineorder ∷ dimensions_of js) ≡ true
        → has_name tables (table_name t) ≡ true
    back t e = by (is_table t Lineorder) refl e
      where
        by : (b : Bool) → is_table t Lineorder ≡ b → (b || is_among t (dimensions_of js)) ≡ true
            → has_name tables (table_name t) ≡ true
        by true h e = subst (λ u. has_name tables (table_name u) ≡ true)
            (sym (table_same t Lineorder h)) fact
        by false h e = named_among tables js t named e
