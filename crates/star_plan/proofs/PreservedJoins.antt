-- The joins of a well named query: each by a foreign key, and each of another dimension.
use Rattle.std.proofs.Common.{◌≡◌, ◌∙◌, sym, ap, subst, ℕ, ◌+◌, ◌≤◌, Bool, true, false, not as negated, if◌then◌else◌, inl, inr, List, [], ◌∷◌, ◌++◌, Option, Some, None, length, arith, refl}
use Rattle.std.{specs.List.{AllByRecursion, IsDistinct, list_all, list_any}, specs.Option.option_map_or, proofs.lemmas.Bool.{and_from, and_parts, not-true, not_from_false}}
use Rattle.star_schema.{specs.declared.table.TableId.TableId, specs.declared.column.ColumnId.ColumnId, specs.Schema.{is_table, table_of}, specs.declared.table.TableId.TheVariants.{Date, Customer, Supplier, Part, Lineorder}, proofs.Same.table_same}
use Rattle.star_query.specs.Tree.{Condition, Test, and, comparison, or, not, pair, test}
use Rattle.star_plan.{specs.declared.tree.Join.Join, specs.Names.column_at, specs.Faults.pair_fault, specs.Sound.are_distinct, specs.WellNamed.IsThere, specs.Joins.{Pair, is_foreign, is_joined, join_by, join_of, joins, joins_of, pairs_of, where_pairs}, proofs.Apart.{IsFresh, found_known, found_none}, proofs.Options.first_or_second}

-- ---- each by a foreign key

join_by_foreign : (f k : ColumnId) (j : Join) → join_by f k ≡ Some j
    → is_foreign j.foreign j.key ≡ true
join_by_foreign f k j e = grind arith

join_of_foreign : (m n : Option ColumnId) (j : Join) → join_of m n ≡ Some j
    → is_foreign j.foreign j.key ≡ true
join_of_foreign None n j e = absurd (cc)
join_of_foreign (Some a) None j e = absurd (cc)
join_of_foreign (Some a) (Some b) j e =
    elim (first_or_second (join_by a b) (join_by b a) j e)
    [ inl first ↦ join_by_foreign a b j first | inr second ↦ join_by_foreign b a j second ]

-- the join of the comparison, if it is one, is by a foreign key
abbrev IsForeign : Pair → Type 0
IsForeign p = (j : Join) → p.join ≡ Some j → is_foreign j.foreign j.key ≡ true

each_pair : (P : Pair → Type 0) (xs ys : List Pair) → AllByRecursion P xs → AllByRecursion P ys
    → AllByRecursion P (xs ++ ys)
each_pair P [] ys l r = r
each_pair P (x ∷ xs) ys l r = (l.0, each_pair P xs ys l.1 r)

pairs_foreign : (b : Bool) (q : Condition Test) → AllByRecursion IsForeign (pairs_of b q)
pairs_foreign b (and c d) =
    each_pair IsForeign (pairs_of b c) (pairs_of b d) (pairs_foreign b c) (pairs_foreign b d)
pairs_foreign b (or c d) =
    each_pair IsForeign (pairs_of false c) (pairs_of false d) (pairs_foreign false c)
    (pairs_foreign false d)
pairs_foreign b (not c) = pairs_foreign false c
pairs_foreign true (test (pair m n)) = (λ j e. join_of_foreign (column_at m) (column_at n) j e, tt)
pairs_foreign false (test (pair m n)) = (λ j e. absurd (cc), tt)
pairs_foreign b (test (comparison c)) = tt

joins_foreign : (ps : List Pair) → AllByRecursion IsForeign ps
    → list_all (λ j. is_foreign j.foreign j.key) (joins_of ps) ≡ true
joins_foreign [] all = refl
joins_foreign (p ∷ ps) all = grind (arith, joins_foreign ps all.1, and_from)

pub where_foreign : (o : Option (Condition Test))
    → list_all (λ j. is_foreign j.foreign j.key) (joins_of (where_pairs o)) ≡ true
where_foreign None = refl
where_foreign (Some c) = joins_foreign (pairs_of true c) (pairs_foreign true c)

-- ---- each of another dimension

-- two comparisons join one dimension
abbrev of_one : Option Join → Option Join → Bool
of_one o None = false
of_one o (Some j) = joins (table_of j.key) o

abbrev pub same_join : Pair → Pair → Bool
same_join p q = of_one p.join q.join

joined_before : (before : List Pair) (o : Option Join)
    → option_map_or (λ j. is_joined before (table_of j.key)) o false
    ≡ list_any (λ p. of_one p.join o) before
joined_before before (Some j) = refl
joined_before [] None = refl
joined_before (p ∷ ps) None = joined_before ps None

pub pair_known : (before : List Pair) (p : Pair) → pair_fault before p ≡ None
    → IsThere p.join × IsFresh same_join before p
pair_known before p e = let both = found_known p.join _ _ _ e in
    (both.0, sym (joined_before before p.join) ∙ both.1)

pub pair_none : (before : List Pair) (p : Pair) → IsFresh same_join before p → IsThere p.join
    → pair_fault before p ≡ None
pair_none before p fresh there =
    found_none p.join _ _ _ there (joined_before before p.join ∙ fresh)

-- each of them a join
abbrev AreThere : List Pair → Type 0
AreThere ps = AllByRecursion (λ p. IsThere p.join) ps

-- a join of another dimension
abbrev is_other : Join → Join → Bool
is_other j q = negated (is_table (table_of q.key) (table_of j.key))

cons_joined : (p : Pair) (ps : List Pair) (j : Join) → p.join ≡ Some j
    → joins_of (p ∷ ps) ≡ j ∷ joins_of ps
cons_joined p ps j h = rw h refl

others_to : (j : Join) (ps : List Pair) → AreThere ps
    → AllByRecursion (λ q. of_one (Some j) q.join ≡ false) ps
    → list_all (is_other j) (joins_of ps) ≡ true
others_to j [] all none = refl
others_to j (q ∷ ps) all none =
    ap (list_all (is_other j)) (cons_joined q ps all.0.0 all.0.1)
    ∙ and_from (is_other j all.0.0) (list_all (is_other j) (joins_of ps))
    (not_from_false _ (sym (ap (of_one (Some j)) all.0.1) ∙ none.0)) (others_to j ps all.1 none.1)

others_from : (j : Join) (ps : List Pair) → AreThere ps → list_all (is_other j) (joins_of ps) ≡ true
    → AllByRecursion (λ q. of_one (Some j) q.join ≡ false) ps
others_from j [] all e = tt
others_from j (q ∷ ps) all e =
    let both = and_parts (is_other j all.0.0) (list_all (is_other j) (joins_of ps))
    (sym (ap (list_all (is_other j)) (cons_joined q ps all.0.0 all.0.1)) ∙ e) in
    (ap (of_one (Some j)) all.0.1 ∙ not-true _ both.0, others_from j ps all.1 both.1)

pub distinct : (ps : List Pair) → AreThere ps → IsDistinct same_join ps
    → are_distinct (joins_of ps) ≡ true
unfolding IsDistinct
distinct [] all apart = refl
distinct (p ∷ ps) all apart =
    ap are_distinct (cons_joined p ps all.0.0 all.0.1)
    ∙ and_from (list_all (is_other all.0.0) (joins_of ps)) (are_distinct (joins_of ps))
    (others_to all.0.0 ps all.1
    (subst (λ o. AllByRecursion (λ q. of_one o q.join ≡ false) ps) all.0.1 apart.0))
    (distinct ps all.1 apart.1)

pub are_apart : (ps : List Pair) → AreThere ps → are_distinct (joins_of ps) ≡ true
    → IsDistinct same_join ps
unfolding IsDistinct
are_apart [] all e = tt
are_apart (p ∷ ps) all e =
    let both = and_parts (list_all (is_other all.0.0) (joins_of ps)) (are_distinct (joins_of ps))
    (sym (ap are_distinct (cons_joined p ps all.0.0 all.0.1)) ∙ e) in (
      subst (λ o. AllByRecursion (λ q. of_one o q.join ≡ false) ps) (sym all.0.1)
          (others_from all.0.0 ps all.1 both.0),
      are_apart ps all.1 both.1,
    )

-- ---- at most four

-- how many of the joins are of a table
joins_to : TableId → List Join → ℕ
joins_to t [] = 0
joins_to t (j ∷ js) = (if is_table (table_of j.key) t then 1 else 0) + joins_to t js

none_to : (t : TableId) (js : List Join)
    → list_all (λ q. negated (is_table (table_of q.key) t)) js ≡ true → joins_to t js ≡ 0
unfolding joins_to
none_to t [] e = refl
none_to t (j ∷ js) e = let both = and_parts _ _ e in
    go (is_table (table_of j.key) t) refl both.0 (none_to t js both.1)
  where
    go : (b : Bool) → is_table (table_of j.key) t ≡ b → negated (is_table (table_of j.key) t) ≡ true
        → joins_to t js ≡ 0 → joins_to t (j ∷ js) ≡ 0
    go true h e rest = absurd (let wrong = rw h at e in cc)
    go false h e rest = rw h (omega arith)

once : (t : TableId) (js : List Join) → are_distinct js ≡ true → joins_to t js ≤ 1
unfolding joins_to
once t [] e = omega arith
once t (j ∷ js) e = let both = and_parts _ _ e in
    go (is_table (table_of j.key) t) refl both.0 (once t js both.1)
  where
    go : (b : Bool) → is_table (table_of j.key) t ≡ b
        → list_all (λ q. negated (is_table (table_of q.key) (table_of j.key))) js ≡ true
        → joins_to t js ≤ 1 → joins_to t (j ∷ js) ≤ 1
    go true h e rest = let none : joins_to t js ≡ 0 =
        none_to t js (rw (table_same (table_of j.key) t h) at e) in rw h (omega arith)
    go false h e rest = rw h (omega arith)

-- lineorder has no lone key
not_the_fact : (j : Join) → is_foreign j.foreign j.key ≡ true → table_of j.key ≡ Lineorder → ⊥
not_the_fact j e fact = grind (arith, and_parts)

all_counted : (js : List Join) → list_all (λ j. is_foreign j.foreign j.key) js ≡ true
    → length js ≡ joins_to Date js + joins_to Customer js + joins_to Supplier js + joins_to Part js
unfolding joins_to
all_counted [] e = refl
all_counted (j ∷ js) e = let both = and_parts _ _ e in
    go (table_of j.key) refl both.0 (all_counted js both.1)
  where
    go : (t : TableId) → table_of j.key ≡ t → is_foreign j.foreign j.key ≡ true
        → length js ≡ joins_to Date js + joins_to Customer js + joins_to Supplier js
        + joins_to Part js → length (j ∷ js) ≡ joins_to Date (j ∷ js) + joins_to Customer (j ∷ js)
        + joins_to Supplier (j ∷ js) + joins_to Part (j ∷ js)
    go Date h foreign rest = rw h (omega arith)
    go Customer h foreign rest = rw h (omega arith)
    go Supplier h foreign rest = rw h (omega arith)
    go Part h foreign rest = rw h (omega arith)
    go Lineorder h foreign rest = absurd (not_the_fact j foreign h)

pub at_most_four : (js : List Join) → list_all (λ j. is_foreign j.foreign j.key) js ≡ true
    → are_distinct js ≡ true → length js ≤ 4
at_most_four js foreign apart = grind (arith, all_counted, once)
