-- A query begins with what was read on the way to any state, and is what was read where it ends.
use Rattle.std.proofs.{Common.{◌≡◌, ◌∙◌, ◌+◌, true, false, List, [], ◌∷◌, Option, Some, None, refl, ap, arith}, lemmas.Grind.common_steps}
use Rattle.star_query.specs.declared.token.Keyword.TheVariants as k
use Rattle.star_query.specs.declared.token.Sign.TheVariants as s
use Rattle.star_query.specs.declared.token.Relation.TheVariants as r
use Rattle.star_query.specs.declared.counts.Part.TheVariants as part
use Rattle.star_query.{specs.Symbols.{keyword, relation, sign, number}, specs.Tree.Name, specs.Grammar.Mark, specs.Private.Phrases.{Several, one, Expr, lone_term, plus_or_minus, Term, lone_factor, times, Factor, constant, negative, parens, Lit, unsigned_literal, negative_literal, Cond, lone_conj, or_conj, Conj, lone_unit, and_unit, Unary, not_unit, group, pair, compare, between, folded, counted, Item, plain, aggregate, Key, unmarked, ungrouped, grouped, hiding, Query, at, first, ident, expr_marks, term_marks, factor_marks, lit_marks, cond_marks, conj_marks, unit_marks, item_marks, table_marks, column_marks, key_marks, several_marks, keys_marks, query_marks, Hiding}, specs.Private.Machine.{extended, ExprHole, in_fold, in_parens, TermHole, first_term, next_term, FactorHole, first_factor, next_factor, CondHole, in_where, in_group, ConjHole, first_conj, next_conj, UnitHole, first_unit, next_unit, under_not, LitHole, compared, low, high, Filtered, Grouped, filtered_by, grouped_by, query_of, expr_depth, term_depth, factor_depth, cond_depth, conj_depth, unit_depth, lit_depth, ParserState, begin, item_wanted, fold_named, count_named, count_opened, count_starred, factor_wanted, factor_negative, term_had, agg_had, alias_wanted, items_had, table_wanted, tables_had, unit_wanted, unit_named, equal_had, lit_wanted, lit_negative, low_had, conj_had, filtered_had, group_had, by_had, hiding_had, column_wanted, columns_had, grouped_had, order_had, key_wanted, key_named, keys_had, done, ended, cond_end, query_at_end}, proofs.Passed.{before_marks, select_passed, items_passed, by_passed, hiding_passed, grouped_passed, order_passed, expr_passed, term_passed, factor_passed, cond_passed, conj_passed, unit_passed, between_passed, lit_passed, passed, several-extended, joined_cond_passed}}

-- some query is written so, with more behind
abbrev pub Finishes : (List Mark → List Mark) → Type 0
Finishes front = (q : Query) × (more : List Mark) × (query_marks q ≡ front more)

someone : Name
someone = record { text = []; offset = 0 }

-- a query with these clauses
abbrev with_filter : Several Item → Several Name → Option Cond → Query
with_filter is ts c = query_of (grouped_by (filtered_by is ts c) ungrouped) None false

items_finish : (is : Several Item) → Finishes (items_passed is)
items_finish is = (
  with_filter is (one someone) None,
  at 0 (keyword k.From) ∷ at 0 (ident someone) ∷ [],
  refl,
)

item_finishes : (b : Option (Several Item)) (i : Item)
    → Finishes (λ more. select_passed b (item_marks i more))
item_finishes b i =
    let r = items_finish (extended b i) in
    (r.0, r.1, r.2 ∙ ap (λ l. at 0 (keyword k.Select) ∷ l) (several-extended item_marks b i r.1))

mutual
  expr_finishes : (h : ExprHole) (e : Expr)
      → Finishes (λ more. expr_passed h (expr_marks (expr_depth h) e more))
  expr_finishes (in_fold b f p) e = let r = item_finishes b (aggregate (folded f p e) None) in
      (r.0, at 0 (sign s.Close) ∷ r.1, r.2)
  expr_finishes (in_parens h) e = let r = factor_finishes h (parens e) in
      (r.0, at (factor_depth h + 1) (sign s.Close) ∷ r.1, r.2)

  term_finishes : (h : TermHole) (t : Term)
      → Finishes (λ more. term_passed h (term_marks (term_depth h) t more))
  term_finishes (first_term h) t = expr_finishes h (lone_term t)
  term_finishes (next_term e q h) t = expr_finishes h (plus_or_minus e q t)

  factor_finishes : (h : FactorHole) (f : Factor)
      → Finishes (λ more. factor_passed h (factor_marks (factor_depth h) f more))
  factor_finishes (first_factor h) f = term_finishes h (lone_factor f)
  factor_finishes (next_factor t h) f = term_finishes h (times t f)

mutual
  cond_finishes : (h : CondHole) (a : Cond)
      → Finishes (λ more. cond_passed h (cond_marks (cond_depth h) a more))
  cond_finishes (in_where is ts) a = (with_filter is ts (Some a), [], refl)
  cond_finishes (in_group h) a = let r = unit_finishes h (group a) in
      (r.0, at (unit_depth h + 1) (sign s.Close) ∷ r.1, r.2)

  conj_finishes : (h : ConjHole) (c : Conj)
      → Finishes (λ more. conj_passed h (conj_marks (conj_depth h) c more))
  conj_finishes (first_conj h) c = cond_finishes h (lone_conj c)
  conj_finishes (next_conj a h) c = cond_finishes h (or_conj a c)

  unit_finishes : (h : UnitHole) (u : Unary)
      → Finishes (λ more. unit_passed h (unit_marks (unit_depth h) u more))
  unit_finishes (first_unit h) u = conj_finishes h (lone_unit u)
  unit_finishes (next_unit c h) u = conj_finishes h (and_unit c u)
  unit_finishes (under_not h) u = unit_finishes h (not_unit u)

-- the front goes on with these marks
behind : (front : List Mark → List Mark) (marks : List Mark → List Mark)
    → Finishes (λ more. front (marks more)) → Finishes front
behind front marks r = (r.0, marks r.1, r.2)

lit_finishes : (h : LitHole) (l : Lit)
    → Finishes (λ more. lit_passed h (lit_marks (lit_depth h) l more))
lit_finishes (compared h i q) l = unit_finishes h (compare i q l)
lit_finishes (low h i) l =
    behind (λ more. between_passed h i (lit_marks (unit_depth h) l more))
    (λ more. at (unit_depth h) (keyword k.And)
    ∷ lit_marks (unit_depth h) (unsigned_literal 0) more)
    (unit_finishes h (between i l (unsigned_literal 0)))
lit_finishes (high h i m) l = unit_finishes h (between i m l)

grouped_finishes : (g : Grouped) (ks : Option (Several Key))
    → Finishes (λ more. grouped_passed g (keys_marks ks more))
grouped_finishes g ks = (query_of g ks false, [], refl)

columns_finish : (f : Filtered) (h : Option Hiding) (is : Several Name)
    → Finishes (λ more. by_passed f (hiding_passed h (several_marks column_marks is more)))
columns_finish f None is = (query_of (grouped_by f (grouped is)) None false, [], refl)
columns_finish f (Some h) is =
    (query_of (grouped_by f (hiding h is)) None false, at 0 (sign s.Close) ∷ [], refl)

column_finishes : (f : Filtered) (h : Option Hiding) (b : Option (Several Name))
    → Finishes (λ more. by_passed f (hiding_passed h (before_marks column_marks b more)))
column_finishes f h b =
    let r = columns_finish f h (extended b someone) in (
      r.0,
      column_marks someone r.1,
      r.2 ∙ ap (λ l. by_passed f (hiding_passed h l))
          (several-extended column_marks b someone r.1),
    )

key_finishes : (g : Grouped) (b : Option (Several Key)) (i : Key)
    → Finishes (λ more. order_passed g (before_marks key_marks b (key_marks i more)))
key_finishes g b i =
    let r = grouped_finishes g (Some (extended b i)) in
    (r.0, r.1, r.2 ∙ ap (order_passed g) (several-extended key_marks b i r.1))

table_finishes : (is : Several Item) (b : Option (Several Name))
    → Finishes (λ more. items_passed is (at 0 (keyword k.From) ∷ before_marks table_marks b more))
table_finishes is b = (
  with_filter is (extended b someone) None,
  table_marks someone [],
  ap (λ l. items_passed is (at 0 (keyword k.From) ∷ l))
      (several-extended table_marks b someone []),
)

-- whatever state was reached, a query begins with what was read
pub state_finishes : (from : ParserState) → Finishes (passed from)
state_finishes begin = let q = with_filter (one (plain someone)) (one someone) None in
    (q, query_marks q, refl)
state_finishes (item_wanted b) =
    behind _ (item_marks (plain someone)) (item_finishes b (plain someone))
state_finishes (fold_named b f p) =
    behind _ (λ more. at 0 (sign s.Open)
    ∷ expr_marks 0 (lone_term (lone_factor (constant 0))) (at 0 (sign s.Close) ∷ more))
    (item_finishes b (aggregate (folded f p (lone_term (lone_factor (constant 0)))) None))
state_finishes (count_named b p) =
    behind _ (λ more. at 0 (sign s.Open) ∷ at 0 (sign s.Star) ∷ at 0 (sign s.Close) ∷ more)
    (item_finishes b (aggregate (counted p) None))
state_finishes (count_opened b p) =
    behind _ (λ more. at 0 (sign s.Star) ∷ at 0 (sign s.Close) ∷ more)
    (item_finishes b (aggregate (counted p) None))
state_finishes (count_starred b p) =
    behind _ (λ more. at 0 (sign s.Close) ∷ more) (item_finishes b (aggregate (counted p) None))
state_finishes (factor_wanted h) =
    behind _ (factor_marks (factor_depth h) (constant 0)) (factor_finishes h (constant 0))
state_finishes (factor_negative h) =
    behind _ (λ more. first (part.Operand ∷ []) (factor_depth h) (number 0) ∷ more)
    (factor_finishes h (negative 0))
state_finishes (term_had t h) = term_finishes h t
state_finishes (agg_had b a) = item_finishes b (aggregate a None)
state_finishes (alias_wanted b a) =
    behind _ (λ more. at 0 (ident someone) ∷ more) (item_finishes b (aggregate a (Some someone)))
state_finishes (items_had is) = items_finish is
state_finishes (table_wanted is b) = table_finishes is b
state_finishes (tables_had is ts) = (with_filter is ts None, [], refl)
state_finishes (unit_wanted h) =
    behind _ (unit_marks (unit_depth h) (pair someone someone))
    (unit_finishes h (pair someone someone))
state_finishes (unit_named h i) =
    behind _ (λ more. at (unit_depth h) (relation r.Equal) ∷ at (unit_depth h) (ident someone)
    ∷ more) (unit_finishes h (pair i someone))
state_finishes (equal_had h i) =
    behind _ (λ more. at (unit_depth h) (ident someone) ∷ more) (unit_finishes h (pair i someone))
state_finishes (lit_wanted h) =
    behind _ (lit_marks (lit_depth h) (unsigned_literal 0)) (lit_finishes h (unsigned_literal 0))
state_finishes (lit_negative h) =
    behind _ (λ more. at (lit_depth h) (number 0) ∷ more) (lit_finishes h (negative_literal 0))
state_finishes (low_had h i l) = lit_finishes (low h i) l
state_finishes (conj_had c h) = conj_finishes h c
state_finishes (filtered_had f) = (query_of (grouped_by f ungrouped) None false, [], refl)
state_finishes (group_had f) =
    behind _ (λ more. at 0 (keyword k.By) ∷ column_marks someone more)
    (columns_finish f None (one someone))
state_finishes (by_had f) = behind _ (column_marks someone) (columns_finish f None (one someone))
state_finishes (hiding_had f h) =
    behind _ (λ more. at 0 (sign s.Open) ∷ column_marks someone more)
    (columns_finish f (Some h) (one someone))
state_finishes (column_wanted f h b) = column_finishes f h b
state_finishes (columns_had f h is) = columns_finish f h is
state_finishes (grouped_had g) = (query_of g None false, [], refl)
state_finishes (order_had g) =
    behind _ (λ more. at 0 (keyword k.By) ∷ key_marks (unmarked someone) more)
    (grouped_finishes g (Some (one (unmarked someone))))
state_finishes (key_wanted g b) =
    behind _ (key_marks (unmarked someone)) (key_finishes g b (unmarked someone))
state_finishes (key_named g b i) = key_finishes g b (unmarked i)
state_finishes (keys_had g ks) = grouped_finishes g (Some ks)
state_finishes (done g ks) = grouped_finishes g ks
state_finishes (ended g ks) = (query_of g ks true, [], refl)

cond_end_passed : (a : Cond) (h : CondHole) (q : Query) → cond_end a h ≡ Some q
    → cond_passed h (cond_marks (cond_depth h) a []) ≡ query_marks q
cond_end_passed a it q e = grind arith

columns_end_passed : (f : Filtered) (h : Option Hiding) (is : Several Name) (q : Query)
    → query_at_end (columns_had f h is) ≡ Some q → passed (columns_had f h is) [] ≡ query_marks q
columns_end_passed f it is q e = grind arith

-- what was read where a query ends
pub end_passed : (from : ParserState) (q : Query) → query_at_end from ≡ Some q
    → passed from [] ≡ query_marks q
end_passed it q e =
    grind (arith, common_steps, joined_cond_passed, cond_end_passed, columns_end_passed)
