-- A machine that reads one symbol after another. It is no part of the claim: the parser is shown to
-- go with it, and it with the grammar.
use Rattle.std.specs.Prelude.{ℕ, ◌+◌, nat_lt, Bool, true, false, ◌||◌, List, [], ◌∷◌, length, Option, Some, None, if◌then◌else◌}
use Rattle.star_query.specs.declared.token.Keyword.TheVariants as k
use Rattle.star_query.specs.declared.token.Sign.TheVariants as s
use Rattle.star_query.specs.{declared.token.Additive.Additive, declared.token.Additive.TheVariants.Minus, declared.token.Fold.Fold, declared.token.Relation.Relation, declared.counts.Part.Part, declared.counts.Counts.Counts, declared.fault.Fault.Fault, declared.fault.Fault.TheVariants.{Unexpected, TooDeep, TooMany}, Symbols.{Symbol, keyword, fold, count, relation, sign, additive, name, number, text}, Tree.Name, Grammar.Mark, Maxima.{limit, most_name_bytes, most_nestings}, Private.Phrases.{Several, one, more, Expr, lone_term, plus_or_minus, Term, lone_factor, times, Factor, column, constant, negative, parens, Lit, unsigned_literal, negative_literal, string_literal, Cond, lone_conj, or_conj, Conj, lone_unit, and_unit, Unary, not_unit, group, pair, compare, between, Agg, folded, counted, Item, plain, aggregate, Key, unmarked, ascending, descending, Groups, ungrouped, grouped, Hiding, cube, rollup, hiding, Query, at, first, function}}
use Rattle.star_query.specs.declared.token.Relation.TheVariants as r
use Rattle.star_query.specs.declared.counts.Part.TheVariants as part

-- one more after these, if there are any
abbrev pub extended : {A : Type 0} → Option (Several A) → A → Several A
extended None x = one x
extended (Some xs) x = more xs x

-- the part to the left of a phrase that is to come
mutual
  pub data ExprHole : Type 0 where
    in_fold : Option (Several Item) → Fold → (offset : ℕ) → ExprHole
    in_parens : FactorHole → ExprHole

  pub data TermHole : Type 0 where
    first_term : ExprHole → TermHole
    next_term : Expr → Additive → ExprHole → TermHole

  pub data FactorHole : Type 0 where
    first_factor : TermHole → FactorHole
    next_factor : Term → TermHole → FactorHole

mutual
  pub data CondHole : Type 0 where
    in_where : Several Item → Several Name → CondHole
    in_group : UnitHole → CondHole

  pub data ConjHole : Type 0 where
    first_conj : CondHole → ConjHole
    next_conj : Cond → CondHole → ConjHole

  pub data UnitHole : Type 0 where
    first_unit : ConjHole → UnitHole
    next_unit : Conj → ConjHole → UnitHole
    under_not : UnitHole → UnitHole

pub data LitHole : Type 0 where
  compared : UnitHole → Name → Relation → LitHole
  low : UnitHole → Name → LitHole
  high : UnitHole → Name → Lit → LitHole

-- the clauses up to WHERE
pub record Filtered : Type 0 where
  pub items : Several Item
  pub tables : Several Name
  pub condition : Option Cond

-- the clauses up to GROUP BY
pub record Grouped : Type 0 where
  pub filtered : Filtered
  pub groups : Groups

abbrev pub filtered_by : Several Item → Several Name → Option Cond → Filtered
filtered_by is ts c = record { items = is; tables = ts; condition = c }

abbrev pub grouped_by : Filtered → Groups → Grouped
grouped_by f g = record { filtered = f; groups = g }

abbrev pub query_of : Grouped → Option (Several Key) → Bool → Query
query_of g ks end =
    record {
      items = g.filtered.items;
      tables = g.filtered.tables;
      condition = g.filtered.condition;
      groups = g.groups;
      keys = ks;
      semicolon = end;
    }

abbrev mutual
  pub expr_depth : ExprHole → ℕ
  expr_depth (in_fold b f p) = 0
  expr_depth (in_parens h) = factor_depth h + 1

  pub term_depth : TermHole → ℕ
  term_depth (first_term h) = expr_depth h
  term_depth (next_term e q h) = expr_depth h

  pub factor_depth : FactorHole → ℕ
  factor_depth (first_factor h) = term_depth h
  factor_depth (next_factor t h) = term_depth h

abbrev mutual
  pub cond_depth : CondHole → ℕ
  cond_depth (in_where is ts) = 0
  cond_depth (in_group h) = unit_depth h + 1

  pub conj_depth : ConjHole → ℕ
  conj_depth (first_conj h) = cond_depth h
  conj_depth (next_conj a h) = cond_depth h

  pub unit_depth : UnitHole → ℕ
  unit_depth (first_unit h) = conj_depth h
  unit_depth (next_unit c h) = conj_depth h
  unit_depth (under_not h) = unit_depth h + 1

abbrev pub lit_depth : LitHole → ℕ
lit_depth (compared h i q) = unit_depth h
lit_depth (low h i) = unit_depth h
lit_depth (high h i l) = unit_depth h

-- the phrase that was read last, or is to be read next
pub data ParserState : Type 0 where
  begin : ParserState
  item_wanted : Option (Several Item) → ParserState
  fold_named : Option (Several Item) → Fold → (offset : ℕ) → ParserState
  count_named count_opened count_starred : Option (Several Item) → (offset : ℕ) → ParserState
  factor_wanted factor_negative : FactorHole → ParserState
  term_had : Term → TermHole → ParserState
  agg_had alias_wanted : Option (Several Item) → Agg → ParserState
  items_had : Several Item → ParserState
  table_wanted : Several Item → Option (Several Name) → ParserState
  tables_had : Several Item → Several Name → ParserState
  unit_wanted : UnitHole → ParserState
  unit_named equal_had : UnitHole → Name → ParserState
  lit_wanted lit_negative : LitHole → ParserState
  low_had : UnitHole → Name → Lit → ParserState
  conj_had : Conj → ConjHole → ParserState
  filtered_had group_had by_had : Filtered → ParserState
  hiding_had : Filtered → Hiding → ParserState
  column_wanted : Filtered → Option Hiding → Option (Several Name) → ParserState
  columns_had : Filtered → Option Hiding → Several Name → ParserState
  grouped_had order_had : Grouped → ParserState
  key_wanted : Grouped → Option (Several Key) → ParserState
  key_named : Grouped → Option (Several Key) → Name → ParserState
  keys_had : Grouped → Several Key → ParserState
  done ended : Grouped → Option (Several Key) → ParserState

pub record Step : Type 0 where
  pub next : ParserState
  pub at : Mark

abbrev pub to : ParserState → Mark → Option Step
to next m = Some (record { next = next; at = m })

abbrev pub named : List ℕ → ℕ → Name
named t p = record { text = t; offset = p }

abbrev pub give_factor : Factor → FactorHole → ParserState
give_factor f (first_factor h) = term_had (lone_factor f) h
give_factor f (next_factor t h) = term_had (times t f) h

abbrev pub joined_expr : Term → TermHole → Expr
joined_expr t (first_term h) = lone_term t
joined_expr t (next_term e q h) = plus_or_minus e q t

abbrev pub around_term : TermHole → ExprHole
around_term (first_term h) = h
around_term (next_term e q h) = h

-- an expression was read
abbrev pub expr_had : Expr → ExprHole → ParserState
expr_had (lone_term t) h = term_had t (first_term h)
expr_had (plus_or_minus e q t) h = term_had t (next_term e q h)

abbrev pub give_unit : Unary → UnitHole → ParserState
give_unit u (first_unit h) = conj_had (lone_unit u) h
give_unit u (next_unit c h) = conj_had (and_unit c u) h
give_unit u (under_not h) = give_unit (not_unit u) h

abbrev pub joined_cond : Conj → ConjHole → Cond
joined_cond c (first_conj h) = lone_conj c
joined_cond c (next_conj a h) = or_conj a c

abbrev pub around_conj : ConjHole → CondHole
around_conj (first_conj h) = h
around_conj (next_conj a h) = h

-- a condition was read
abbrev pub cond_had : Cond → CondHole → ParserState
cond_had (lone_conj c) h = conj_had c (first_conj h)
cond_had (or_conj a c) h = conj_had c (next_conj a h)

abbrev pub give_lit : Lit → LitHole → ParserState
give_lit l (compared h i q) = give_unit (compare i q l) h
give_lit l (low h i) = low_had h i l
give_lit l (high h i m) = give_unit (between i m l) h

abbrev pub closed_expr : Expr → ExprHole → Option Step
closed_expr e (in_fold b f p) = to (agg_had b (folded f p e)) (at 0 (sign s.Close))
closed_expr e (in_parens h) = to (give_factor (parens e) h) (at (factor_depth h + 1) (sign s.Close))

abbrev pub on_items : Several Item → Symbol → Option Step
on_items is (sign s.Comma) = to (item_wanted (Some is)) (at 0 (sign s.Comma))
on_items is (keyword k.From) = to (table_wanted is None) (at 0 (keyword k.From))
on_items is x = None

abbrev pub on_done : Grouped → Option (Several Key) → Symbol → Option Step
on_done g ks (sign s.Semicolon) = to (ended g ks) (at 0 (sign s.Semicolon))
on_done g ks x = None

abbrev pub on_grouped : Grouped → Symbol → Option Step
on_grouped g (keyword k.Order) = to (order_had g) (at 0 (keyword k.Order))
on_grouped g x = on_done g None x

abbrev pub on_filtered : Filtered → Symbol → Option Step
on_filtered f (keyword k.Group) = to (group_had f) (at 0 (keyword k.Group))
on_filtered f x = on_grouped (grouped_by f ungrouped) x

-- an equals sign may precede a name too
abbrev pub behind_relation : UnitHole → Name → Relation → ParserState
behind_relation h i r.Equal = equal_had h i
behind_relation h i q = lit_wanted (compared h i q)

abbrev pub on_lit : LitHole → Symbol → Option Step
on_lit h (number n) = to (give_lit (unsigned_literal n) h) (at (lit_depth h) (number n))
on_lit h (text t) = to (give_lit (string_literal t) h) (at (lit_depth h) (text t))
on_lit h (additive Minus) = to (lit_negative h) (at (lit_depth h) (additive Minus))
on_lit h x = None

abbrev pub closed_cond : Cond → UnitHole → Symbol → Option Step
closed_cond a h (sign s.Close) = to (give_unit (group a) h) (at (unit_depth h + 1) (sign s.Close))
closed_cond a h x = None

abbrev pub on_cond : Cond → CondHole → Symbol → Option Step
on_cond a (in_where is ts) x = on_filtered (filtered_by is ts (Some a)) x
on_cond a (in_group h) x = closed_cond a h x

abbrev pub on_column : Filtered → Option Hiding → Option (Several Name) → Symbol → Option Step
on_column f h b (name t p) =
    to (columns_had f h (extended b (named t p))) (first (part.GroupColumn ∷ []) 0 (name t p))
on_column f h b x = None

abbrev pub on_keys : Grouped → Several Key → Symbol → Option Step
on_keys g ks (sign s.Comma) = to (key_wanted g (Some ks)) (at 0 (sign s.Comma))
on_keys g ks x = on_done g (Some ks) x

abbrev pub next_step : ParserState → Symbol → Option Step
next_step begin (keyword k.Select) = to (item_wanted None) (at 0 (keyword k.Select))
next_step begin x = None
next_step (item_wanted b) (name t p) =
    to (items_had (extended b (plain (named t p)))) (first (part.Item ∷ []) 0 (name t p))
next_step (item_wanted b) (fold f p) = to (fold_named b f p) (function (fold f p))
next_step (item_wanted b) (count p) = to (count_named b p) (function (count p))
next_step (item_wanted b) x = None
next_step (fold_named b f p) (sign s.Open) =
    to (factor_wanted (first_factor (first_term (in_fold b f p)))) (at 0 (sign s.Open))
next_step (fold_named b f p) x = None
next_step (count_named b p) (sign s.Open) = to (count_opened b p) (at 0 (sign s.Open))
next_step (count_named b p) x = None
next_step (count_opened b p) (sign s.Star) = to (count_starred b p) (at 0 (sign s.Star))
next_step (count_opened b p) x = None
next_step (count_starred b p) (sign s.Close) = to (agg_had b (counted p)) (at 0 (sign s.Close))
next_step (count_starred b p) x = None
next_step (factor_wanted h) (name t p) =
    to (give_factor (column (named t p)) h) (first (part.Operand ∷ []) (factor_depth h) (name t p))
next_step (factor_wanted h) (number n) =
    to (give_factor (constant n) h) (first (part.Operand ∷ []) (factor_depth h) (number n))
next_step (factor_wanted h) (additive Minus) =
    to (factor_negative h) (at (factor_depth h) (additive Minus))
next_step (factor_wanted h) (sign s.Open) =
    to (factor_wanted (first_factor (first_term (in_parens h))))
    (at (factor_depth h + 1) (sign s.Open))
next_step (factor_wanted h) x = None
next_step (factor_negative h) (number n) =
    to (give_factor (negative n) h) (first (part.Operand ∷ []) (factor_depth h) (number n))
next_step (factor_negative h) x = None
next_step (term_had t h) (sign s.Star) =
    to (factor_wanted (next_factor t h)) (at (term_depth h) (sign s.Star))
next_step (term_had t h) (additive q) =
    to (factor_wanted (first_factor (next_term (joined_expr t h) q (around_term h))))
    (at (term_depth h) (additive q))
next_step (term_had t h) (sign s.Close) = closed_expr (joined_expr t h) (around_term h)
next_step (term_had t h) x = None
next_step (agg_had b a) (keyword k.As) = to (alias_wanted b a) (at 0 (keyword k.As))
next_step (agg_had b a) x = on_items (extended b (aggregate a None)) x
next_step (alias_wanted b a) (name t p) =
    to (items_had (extended b (aggregate a (Some (named t p))))) (at 0 (name t p))
next_step (alias_wanted b a) x = None
next_step (items_had is) x = on_items is x
next_step (table_wanted is b) (name t p) =
    to (tables_had is (extended b (named t p))) (at 0 (name t p))
next_step (table_wanted is b) x = None
next_step (tables_had is ts) (sign s.Comma) = to (table_wanted is (Some ts)) (at 0 (sign s.Comma))
next_step (tables_had is ts) (keyword k.Where) =
    to (unit_wanted (first_unit (first_conj (in_where is ts)))) (at 0 (keyword k.Where))
next_step (tables_had is ts) x = on_filtered (filtered_by is ts None) x
next_step (unit_wanted h) (name t p) =
    to (unit_named h (named t p)) (first (part.Comparison ∷ []) (unit_depth h) (name t p))
next_step (unit_wanted h) (keyword k.Not) =
    to (unit_wanted (under_not h)) (first (part.Comparison ∷ []) (unit_depth h + 1) (keyword k.Not))
next_step (unit_wanted h) (sign s.Open) =
    to (unit_wanted (first_unit (first_conj (in_group h)))) (at (unit_depth h + 1) (sign s.Open))
next_step (unit_wanted h) x = None
next_step (unit_named h i) (relation q) =
    to (behind_relation h i q) (at (unit_depth h) (relation q))
next_step (unit_named h i) (keyword k.Between) =
    to (lit_wanted (low h i)) (at (unit_depth h) (keyword k.Between))
next_step (unit_named h i) x = None
next_step (equal_had h i) (name t p) =
    to (give_unit (pair i (named t p)) h) (at (unit_depth h) (name t p))
next_step (equal_had h i) x = on_lit (compared h i r.Equal) x
next_step (lit_wanted h) x = on_lit h x
next_step (lit_negative h) (number n) =
    to (give_lit (negative_literal n) h) (at (lit_depth h) (number n))
next_step (lit_negative h) x = None
next_step (low_had h i l) (keyword k.And) =
    to (lit_wanted (high h i l)) (at (unit_depth h) (keyword k.And))
next_step (low_had h i l) x = None
next_step (conj_had c h) (keyword k.And) =
    to (unit_wanted (next_unit c h)) (at (conj_depth h) (keyword k.And))
next_step (conj_had c h) (keyword k.Or) =
    to (unit_wanted (first_unit (next_conj (joined_cond c h) (around_conj h))))
    (at (conj_depth h) (keyword k.Or))
next_step (conj_had c h) x = on_cond (joined_cond c h) (around_conj h) x
next_step (filtered_had f) x = on_filtered f x
next_step (group_had f) (keyword k.By) = to (by_had f) (at 0 (keyword k.By))
next_step (group_had f) x = None
next_step (by_had f) (keyword k.Cube) = to (hiding_had f cube) (at 0 (keyword k.Cube))
next_step (by_had f) (keyword k.Rollup) = to (hiding_had f rollup) (at 0 (keyword k.Rollup))
next_step (by_had f) x = on_column f None None x
next_step (hiding_had f h) (sign s.Open) = to (column_wanted f (Some h) None) (at 0 (sign s.Open))
next_step (hiding_had f h) x = None
next_step (column_wanted f h b) x = on_column f h b x
next_step (columns_had f h is) (sign s.Comma) =
    to (column_wanted f h (Some is)) (at 0 (sign s.Comma))
next_step (columns_had f (Some h) is) (sign s.Close) =
    to (grouped_had (grouped_by f (hiding h is))) (at 0 (sign s.Close))
next_step (columns_had f (Some h) is) x = None
next_step (columns_had f None is) x = on_grouped (grouped_by f (grouped is)) x
next_step (grouped_had g) x = on_grouped g x
next_step (order_had g) (keyword k.By) = to (key_wanted g None) (at 0 (keyword k.By))
next_step (order_had g) x = None
next_step (key_wanted g b) (name t p) =
    to (key_named g b (named t p)) (first (part.SortKey ∷ []) 0 (name t p))
next_step (key_wanted g b) x = None
next_step (key_named g b i) (keyword k.Asc) =
    to (keys_had g (extended b (ascending i))) (at 0 (keyword k.Asc))
next_step (key_named g b i) (keyword k.Desc) =
    to (keys_had g (extended b (descending i))) (at 0 (keyword k.Desc))
next_step (key_named g b i) x = on_keys g (extended b (unmarked i)) x
next_step (keys_had g ks) x = on_keys g ks x
next_step (done g ks) x = on_done g ks x
next_step (ended g ks) x = None

-- the query that was read, if one may end here
abbrev pub cond_end : Cond → CondHole → Option Query
cond_end a (in_where is ts) =
    Some (query_of (grouped_by (filtered_by is ts (Some a)) ungrouped) None false)
cond_end a (in_group h) = None

abbrev pub query_at_end : ParserState → Option Query
query_at_end (tables_had is ts) =
    Some (query_of (grouped_by (filtered_by is ts None) ungrouped) None false)
query_at_end (conj_had c h) = cond_end (joined_cond c h) (around_conj h)
query_at_end (filtered_had f) = Some (query_of (grouped_by f ungrouped) None false)
query_at_end (columns_had f None is) = Some (query_of (grouped_by f (grouped is)) None false)
query_at_end (grouped_had g) = Some (query_of g None false)
query_at_end (key_named g b i) = Some (query_of g (Some (extended b (unmarked i))) false)
query_at_end (keys_had g ks) = Some (query_of g (Some ks) false)
query_at_end (done g ks) = Some (query_of g ks false)
query_at_end (ended g ks) = Some (query_of g ks true)
query_at_end _ = None

pub data Verdict : Type 0 where
  Whole : Query → Verdict
  Bad : Fault → List Symbol → Verdict

abbrev pub count_of_part : Counts → Part → ℕ
count_of_part n part.Item = n.items
count_of_part n part.Aggregate = n.aggregates
count_of_part n part.GroupColumn = n.columns
count_of_part n part.SortKey = n.keys
count_of_part n part.Comparison = n.comparisons
count_of_part n part.Operand = n.operands

-- one more of a part
abbrev pub bump : Part → Counts → Counts
bump part.Item n = record n { items = n.items + 1 }
bump part.Aggregate n = record n { aggregates = n.aggregates + 1 }
bump part.GroupColumn n = record n { columns = n.columns + 1 }
bump part.SortKey n = record n { keys = n.keys + 1 }
bump part.Comparison n = record n { comparisons = n.comparisons + 1 }
bump part.Operand n = record n { operands = n.operands + 1 }

abbrev pub plus : Counts → List Part → Counts
plus n [] = n
plus n (p ∷ ps) = plus (bump p n) ps

abbrev pub is_over : Counts → List Part → Bool
is_over n [] = false
is_over n (p ∷ ps) = nat_lt (limit p) (count_of_part n p) || is_over n ps

abbrev pub is_long : Symbol → Bool
is_long (name t p) = nat_lt most_name_bytes (length t)
is_long x = false

-- a symbol within the limits, after these counts
abbrev pub checked : Counts → Mark → List Symbol → (Counts → Verdict) → Verdict
checked n m rest go =
    if nat_lt most_nestings m.depth
    then Bad TooDeep rest
    else if is_over (plus n m.parts) m.parts || is_long m.symbol
    then Bad TooMany rest
    else go (plus n m.parts)

abbrev pub verdict_after : Option Step → Counts → List Symbol → (ParserState → Counts → Verdict)
    → Verdict
verdict_after None n rest go = Bad Unexpected rest
verdict_after (Some x) n rest go = checked n x.at rest (go x.next)

abbrev pub ends : Option Query → Verdict
ends None = Bad Unexpected []
ends (Some q) = Whole q

abbrev pub run : List Symbol → ParserState → Counts → Verdict
run [] at n = ends (query_at_end at)
run (x ∷ xs) at n = verdict_after (next_step at x) n (x ∷ xs) (run xs)

abbrev pub nothing_counted : Counts
nothing_counted = record {
  items = 0;
  aggregates = 0;
  columns = 0;
  keys = 0;
  comparisons = 0;
  operands = 0;
}
