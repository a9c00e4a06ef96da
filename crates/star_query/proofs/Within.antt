-- What the limits count of the marks of a query is counted of its tree.
use Rattle.std.{proofs.Common.{◌≡◌, ℕ, ◌+◌, ◌≤◌, List, [], ◌∷◌, ◌++◌, length, Option, refl, arith, if◌then◌else◌}, proofs.lemmas.List.Sums.{sum_by-cons, sum_by_push}, specs.List.sum_by}
use Rattle.star_query.{specs.Tree.{Name, Expression, Condition, Test, Measure, Grouping, SortKey, Tree}, specs.Grammar.{Mark, Several, IsExpr, IsTerm, IsFactor, IsCond, IsConj, IsUnit, IsMeasure, IsItem, IsKey, IsName, IsWhere, IsGrouping, IsOrder, IsQuery, nested, bracketed}, specs.Limits.{operands_of, measure_operands, item_operands, aggregates_in, comparisons_of, where_comparisons, IsQueryWithinLimits}, specs.declared.counts.Part.Part, specs.declared.token.Additive.TheVariants.{Plus, Minus}, specs.Symbols.{Symbol, keyword, additive, sign}, specs.Maxima.limit, specs.Derives.{count_begun, Derives}, proofs.Verdicts.count_of-append}
use Rattle.star_query.specs.declared.counts.Part.TheVariants as part
use Rattle.star_query.specs.declared.token.Keyword.TheVariants as k
use Rattle.star_query.specs.declared.token.Sign.TheVariants as s
use Rattle.star_query.specs.Grammar as w

-- ---- marks under a nesting and in parentheses

nested_same : (p : Part) (ms : List Mark) → count_begun p (nested ms) ≡ count_begun p ms
nested_same p [] = refl
nested_same p (m ∷ ms) = omega (arith, nested_same p ms)

bracketed_same : (p : Part) (ms : List Mark) → count_begun p (bracketed ms) ≡ count_begun p ms
bracketed_same p ms = omega (arith, count_of-append p ms (w.at (sign s.Close) ∷ []))

-- two phrases with a symbol between them
parted : (p : Part) (ms ns : List Mark) (x : Symbol)
    → count_begun p (ms ++ w.at x ∷ ns) ≡ count_begun p ms + count_begun p ns
parted p ms ns x = omega (arith, count_of-append p ms (w.at x ∷ ns))

inside : (p : Part) (ms : List Mark) → count_begun p (nested (bracketed ms)) ≡ count_begun p ms
inside p ms = omega (arith, nested_same p (bracketed ms), bracketed_same p ms)

-- ---- expressions and conditions

mutual
  expr_operands : {ms : List Mark} {e : Expression Name} → IsExpr ms e
      → operands_of e ≤ count_begun part.Operand ms
  expr_operands (w.term t) = term_operands t
  expr_operands (w.plus {ms} {ns} a b) =
      omega (arith, parted part.Operand ms ns (additive Plus), expr_operands a, term_operands b)
  expr_operands (w.minus {ms} {ns} a b) =
      omega (arith, parted part.Operand ms ns (additive Minus), expr_operands a, term_operands b)

  term_operands : {ms : List Mark} {e : Expression Name} → IsTerm ms e
      → operands_of e ≤ count_begun part.Operand ms
  term_operands (w.factor f) = factor_operands f
  term_operands (w.times {ms} {ns} a b) =
      omega (arith, parted part.Operand ms ns (sign s.Star), term_operands a, factor_operands b)

  factor_operands : {ms : List Mark} {e : Expression Name} → IsFactor ms e
      → operands_of e ≤ count_begun part.Operand ms
  factor_operands (w.column {n}) = omega arith
  factor_operands (w.positive {n}) = omega arith
  factor_operands (w.negative {n}) = omega arith
  factor_operands (w.parens {ms} e) =
      omega (arith, inside part.Operand ms, expr_operands e)

mutual
  cond_comparisons : {ms : List Mark} {c : Condition Test} → IsCond ms c
      → comparisons_of c ≤ count_begun part.Comparison ms
  cond_comparisons (w.conj c) = conj_comparisons c
  cond_comparisons (w.either {ms} {ns} a b) =
      omega (
        arith,
        parted part.Comparison ms ns (keyword k.Or),
        cond_comparisons a,
        conj_comparisons b,
      )

  conj_comparisons : {ms : List Mark} {c : Condition Test} → IsConj ms c
      → comparisons_of c ≤ count_begun part.Comparison ms
  conj_comparisons (w.unit u) = unit_comparisons u
  conj_comparisons (w.both {ms} {ns} a b) =
      omega (
        arith,
        parted part.Comparison ms ns (keyword k.And),
        conj_comparisons a,
        unit_comparisons b,
      )

  unit_comparisons : {ms : List Mark} {c : Condition Test} → IsUnit ms c
      → comparisons_of c ≤ count_begun part.Comparison ms
  unit_comparisons (w.negated {ms} u) =
      omega (
        arith,
        nested_same part.Comparison (w.counted (part.Comparison ∷ []) (keyword k.Not) ∷ ms),
        unit_comparisons u,
      )
  unit_comparisons (w.parens {ms} c) =
      omega (arith, inside part.Comparison ms, cond_comparisons c)
  unit_comparisons w.pair = omega arith
  unit_comparisons (w.compare l) = omega arith
  unit_comparisons (w.between l h) = omega arith

-- ---- lists

-- a phrase has a mark for each one that it weighs
abbrev Weighs : {A : Type 0} → (List Mark → A → Type 0) → (A → ℕ) → Part → Type 0
Weighs {A} Is weight p = (ms : List Mark) (x : A) → Is ms x → weight x ≤ count_begun p ms

several_weigh : {A : Type 0} (Is : List Mark → A → Type 0) (weight : A → ℕ) (p : Part)
    → Weighs Is weight p → {ms : List Mark} {xs : List A} → Several Is ms xs
    → sum_by weight xs ≤ count_begun p ms
several_weigh Is weight p weighs (w.one {ms} {x} is) = omega (arith, weighs ms x is)
several_weigh Is weight p weighs (w.more {ms} {ns} {xs} {x} before is) =
    grind (arith, several_weigh Is weight p weighs before, parted, sum_by_push)

ones : {A : Type 0} (xs : List A) → sum_by (λ x. 1) xs ≡ length xs
ones [] = refl
ones (x ∷ xs) = omega (arith, ones xs, sum_by-cons (λ y. 1) x xs)

several_long : {A : Type 0} (Is : List Mark → A → Type 0) (p : Part) → Weighs Is (λ x. 1) p
    → {ms : List Mark} {xs : List A} → Several Is ms xs → length xs ≤ count_begun p ms
several_long Is p weighs {ms} {xs} is =
    omega (arith, ones xs, several_weigh Is (λ x. 1) p weighs is)

-- ---- items, columns and keys

measure_items : {offset : ℕ} {ms : List Mark} {m : Measure Name} → IsMeasure offset ms m
    → 1 ≤ count_begun part.Item ms
measure_items (w.folded e) = omega arith
measure_items w.counting = omega arith

measure_aggregates : {offset : ℕ} {ms : List Mark} {m : Measure Name} → IsMeasure offset ms m
    → 1 ≤ count_begun part.Aggregate ms
measure_aggregates (w.folded e) = omega arith
measure_aggregates w.counting = omega arith

measure_numbers : {offset : ℕ} {ms : List Mark} {m : Measure Name} → IsMeasure offset ms m
    → measure_operands m ≤ count_begun part.Operand ms
measure_numbers it = grind (arith, bracketed_same, expr_operands)

one_item : Weighs IsItem (λ i. 1) part.Item
one_item ms i it = grind (arith, measure_items, parted)

item_aggregates : Weighs IsItem aggregates_in part.Aggregate
item_aggregates ms i it = grind (arith, measure_aggregates, parted)

item_numbers : Weighs IsItem item_operands part.Operand
item_numbers ms i it = grind (arith, measure_numbers, parted)

one_column : Weighs (IsName (part.GroupColumn ∷ [])) (λ n. 1) part.GroupColumn
one_column ms n same = grind arith

one_key : Weighs IsKey (λ k. 1) part.SortKey
one_key ms k it = grind arith

-- ---- clauses

where_weighs : {ms : List Mark} {c : Option (Condition Test)} → IsWhere ms c
    → where_comparisons c ≤ count_begun part.Comparison ms
where_weighs w.all_rows = omega arith
where_weighs (w.filtered c) = omega (arith, cond_comparisons c)

groups_weigh : {ms : List Mark} {g : Grouping} → IsGrouping ms g
    → length g.columns ≤ count_begun part.GroupColumn ms
groups_weigh it = grind (arith, several_long, one_column, bracketed_same)

keys_weigh : {ms : List Mark} {keys : List SortKey} → IsOrder ms keys
    → length keys ≤ count_begun part.SortKey ms
keys_weigh w.unsorted = omega arith
keys_weigh (w.sorted is) = omega (arith, several_long IsKey part.SortKey one_key is)

-- ---- a query

clauses : (p : Part) (items tables condition groups keys end : List Mark)
    → count_begun p items + count_begun p condition + count_begun p groups + count_begun p keys
    ≤ count_begun p (items ++ w.at (keyword k.From)
    ∷ (tables ++ (condition ++ (groups ++ (keys ++ end)))))
clauses p items tables condition groups keys end = grind (arith, count_of-append)

query_within : {ms : List Mark} (t : Tree) → IsQuery ms t
    → ((p : Part) → count_begun p ms ≤ limit p) → IsQueryWithinLimits t
query_within t (w.query {items} {tables} {condition} {groups} {keys} semicolon is ts c g ks)
    within =
    let parts = λ (p : Part). clauses p items tables condition groups keys
    (if semicolon then w.at (sign s.Semicolon) ∷ [] else []) in
    record {
      items =
          omega (
            arith,
            within part.Item,
            parts part.Item,
            several_long IsItem part.Item one_item is,
          );
      aggregates =
          omega (
            arith,
            within part.Aggregate,
            parts part.Aggregate,
            several_weigh IsItem aggregates_in part.Aggregate item_aggregates is,
          );
      operands =
          omega (
            arith,
            within part.Operand,
            parts part.Operand,
            several_weigh IsItem item_operands part.Operand item_numbers is,
          );
      comparisons =
          omega (arith, within part.Comparison, parts part.Comparison, where_weighs c);
      columns = omega (arith, within part.GroupColumn, parts part.GroupColumn, groups_weigh g);
      keys = omega (arith, within part.SortKey, parts part.SortKey, keys_weigh ks);
    }

-- what symbols mean is within the limits
pub derived_within : (xs : List Symbol) (t : Tree) → Derives xs t → IsQueryWithinLimits t
derived_within xs t d = query_within t d.query d.within.counts
