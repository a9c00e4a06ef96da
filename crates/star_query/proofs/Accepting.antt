-- The machine goes through what is written.
use Rattle.std.proofs.Common.{◌≡◌, ℕ, ◌+◌, Bool, true, false, List, [], ◌∷◌, Option, Some, None, refl, arith}
use Rattle.star_query.specs.declared.token.Keyword.TheVariants as k
use Rattle.star_query.specs.declared.token.Sign.TheVariants as s
use Rattle.star_query.specs.{declared.token.Additive.Additive, declared.token.Relation.Relation, Symbols.{keyword, sign, additive}, Tree.Name, Grammar.Mark, Private.Phrases.{Several, one, more, Expr, lone_term, plus_or_minus, Term, lone_factor, times, Factor, column, constant, negative, parens, Lit, unsigned_literal, negative_literal, string_literal, Cond, lone_conj, or_conj, Conj, lone_unit, and_unit, Unary, not_unit, group, pair, compare, between, Agg, folded, counted, Item, plain, aggregate, Key, unmarked, ascending, descending, Groups, ungrouped, grouped, hiding, Query, at, expr_marks, term_marks, factor_marks, lit_marks, cond_marks, conj_marks, unit_marks, agg_marks, item_marks, table_marks, column_marks, key_marks, several_marks, where_marks, groups_marks, keys_marks, end_marks, query_marks, Hiding, cube, rollup, hiding_word}, Private.Machine.{extended, ExprHole, in_fold, in_parens, TermHole, first_term, next_term, FactorHole, first_factor, next_factor, CondHole, in_where, in_group, ConjHole, first_conj, next_conj, UnitHole, first_unit, next_unit, under_not, LitHole, compared, low, high, Filtered, Grouped, filtered_by, grouped_by, query_of, expr_depth, term_depth, factor_depth, cond_depth, conj_depth, unit_depth, lit_depth, ParserState, begin, item_wanted, factor_wanted, term_had, agg_had, items_had, table_wanted, tables_had, unit_wanted, equal_had, lit_wanted, conj_had, group_had, by_had, column_wanted, columns_had, grouped_had, order_had, key_wanted, key_named, keys_had, ended, to, give_factor, expr_had, give_unit, cond_had, give_lit, behind_relation, next_step, query_at_end}}
use Rattle.star_query.specs.declared.token.Relation.TheVariants as r

-- from this state the marks are read, and the query is whole
pub data Accepts : ParserState → List Mark → Query → Type 0 where
  at_end : {from : ParserState} {q : Query} → query_at_end from ≡ Some q → Accepts from [] q
  step : {next from : ParserState} {m : Mark} {ms : List Mark} {q : Query}
      → next_step from m.symbol ≡ to next m → Accepts next ms q → Accepts from (m ∷ ms) q

pub expr_joins : (e : Expr) (h : ExprHole) (q : Additive)
    → next_step (expr_had e h) (additive q)
    ≡ to (factor_wanted (first_factor (next_term e q h))) (at (expr_depth h) (additive q))
expr_joins (lone_term t) h q = refl
expr_joins (plus_or_minus e p t) h q = refl

pub parens_close : (e : Expr) (h : FactorHole)
    → next_step (expr_had e (in_parens h)) (sign s.Close)
    ≡ to (give_factor (parens e) h) (at (factor_depth h + 1) (sign s.Close))
parens_close (lone_term t) h = refl
parens_close (plus_or_minus e p t) h = refl

pub fold_closes : (e : Expr) (b : Option (Several Item)) (f : _) (p : ℕ)
    → next_step (expr_had e (in_fold b f p)) (sign s.Close)
    ≡ to (agg_had b (folded f p e)) (at 0 (sign s.Close))
fold_closes (lone_term t) b f p = refl
fold_closes (plus_or_minus e q t) b f p = refl

pub cond_joins : (a : Cond) (h : CondHole)
    → next_step (cond_had a h) (keyword k.Or)
    ≡ to (unit_wanted (first_unit (next_conj a h))) (at (cond_depth h) (keyword k.Or))
cond_joins (lone_conj c) h = refl
cond_joins (or_conj a c) h = refl

pub group_closes : (a : Cond) (h : UnitHole)
    → next_step (cond_had a (in_group h)) (sign s.Close)
    ≡ to (give_unit (group a) h) (at (unit_depth h + 1) (sign s.Close))
group_closes (lone_conj c) h = refl
group_closes (or_conj a c) h = refl

mutual
  expr_goes : (e : Expr) (h : ExprHole) (rest : List Mark) (q : Query)
      → Accepts (expr_had e h) rest q
      → Accepts (factor_wanted (first_factor (first_term h))) (expr_marks (expr_depth h) e rest) q
  expr_goes (lone_term t) h rest q g = term_goes t (first_term h) rest q g
  expr_goes (plus_or_minus e p t) h rest q g =
      expr_goes e h _ q (step (expr_joins e h p) (term_goes t (next_term e p h) rest q g))

  term_goes : (t : Term) (h : TermHole) (rest : List Mark) (q : Query)
      → Accepts (term_had t h) rest q
      → Accepts (factor_wanted (first_factor h)) (term_marks (term_depth h) t rest) q
  term_goes (lone_factor f) h rest q g = factor_goes f (first_factor h) rest q g
  term_goes (times t f) h rest q g =
      term_goes t h _ q (step refl (factor_goes f (next_factor t h) rest q g))

  factor_goes : (f : Factor) (h : FactorHole) (rest : List Mark) (q : Query)
      → Accepts (give_factor f h) rest q
      → Accepts (factor_wanted h) (factor_marks (factor_depth h) f rest) q
  factor_goes (column i) h rest q g = step refl g
  factor_goes (constant n) h rest q g = step refl g
  factor_goes (negative n) h rest q g = step refl (step refl g)
  factor_goes (parens e) h rest q g =
      step refl (expr_goes e (in_parens h) _ q (step (parens_close e h) g))

lit_goes : (l : Lit) (h : LitHole) (rest : List Mark) (q : Query) → Accepts (give_lit l h) rest q
    → Accepts (lit_wanted h) (lit_marks (lit_depth h) l rest) q
lit_goes (unsigned_literal n) h rest q g = step refl g
lit_goes (negative_literal n) h rest q g = step refl (step refl g)
lit_goes (string_literal t) h rest q g = step refl g

equal_goes : (l : Lit) (h : UnitHole) (i : Name) (rest : List Mark) (q : Query)
    → Accepts (give_lit l (compared h i r.Equal)) rest q
    → Accepts (equal_had h i) (lit_marks (unit_depth h) l rest) q
equal_goes (unsigned_literal n) h i rest q g = step refl g
equal_goes (negative_literal n) h i rest q g = step refl (step refl g)
equal_goes (string_literal t) h i rest q g = step refl g

related_goes : (p : Relation) (l : Lit) (h : UnitHole) (i : Name) (rest : List Mark) (q : Query)
    → Accepts (give_lit l (compared h i p)) rest q
    → Accepts (behind_relation h i p) (lit_marks (unit_depth h) l rest) q
related_goes r.Equal l h i rest q g = equal_goes l h i rest q g
related_goes r.Unequal l h i rest q g = lit_goes l (compared h i r.Unequal) rest q g
related_goes r.Less l h i rest q g = lit_goes l (compared h i r.Less) rest q g
related_goes r.AtMost l h i rest q g = lit_goes l (compared h i r.AtMost) rest q g
related_goes r.Greater l h i rest q g = lit_goes l (compared h i r.Greater) rest q g
related_goes r.AtLeast l h i rest q g = lit_goes l (compared h i r.AtLeast) rest q g

mutual
  cond_goes : (a : Cond) (h : CondHole) (rest : List Mark) (q : Query)
      → Accepts (cond_had a h) rest q
      → Accepts (unit_wanted (first_unit (first_conj h))) (cond_marks (cond_depth h) a rest) q
  cond_goes (lone_conj c) h rest q g = conj_goes c (first_conj h) rest q g
  cond_goes (or_conj a c) h rest q g =
      cond_goes a h _ q (step (cond_joins a h) (conj_goes c (next_conj a h) rest q g))

  conj_goes : (c : Conj) (h : ConjHole) (rest : List Mark) (q : Query)
      → Accepts (conj_had c h) rest q
      → Accepts (unit_wanted (first_unit h)) (conj_marks (conj_depth h) c rest) q
  conj_goes (lone_unit u) h rest q g = unit_goes u (first_unit h) rest q g
  conj_goes (and_unit c u) h rest q g =
      conj_goes c h _ q (step refl (unit_goes u (next_unit c h) rest q g))

  unit_goes : (u : Unary) (h : UnitHole) (rest : List Mark) (q : Query)
      → Accepts (give_unit u h) rest q
      → Accepts (unit_wanted h) (unit_marks (unit_depth h) u rest) q
  unit_goes (not_unit u) h rest q g = step refl (unit_goes u (under_not h) rest q g)
  unit_goes (group c) h rest q g =
      step refl (cond_goes c (in_group h) _ q (step (group_closes c h) g))
  unit_goes (pair a b) h rest q g = step refl (step refl (step refl g))
  unit_goes (compare a p l) h rest q g = step refl (step refl (related_goes p l h a rest q g))
  unit_goes (between a l m) h rest q g = step refl (step refl
      (lit_goes l (low h a) _ q (step refl (lit_goes m (high h a l) rest q g))))

agg_goes : (a : Agg) (b : Option (Several Item)) (rest : List Mark) (q : Query)
    → Accepts (agg_had b a) rest q → Accepts (item_wanted b) (agg_marks a rest) q
agg_goes (folded f p e) b rest q g =
    step refl (step refl (expr_goes e (in_fold b f p) _ q (step (fold_closes e b f p) g)))
agg_goes (counted p) b rest q g = step refl (step refl (step refl (step refl g)))

-- what may follow items
pub record ActsItems (from : ParserState) (is : Several Item) : Type 0 where
  pub comma : next_step from (sign s.Comma) ≡ to (item_wanted (Some is)) (at 0 (sign s.Comma))
  pub tables : next_step from (keyword k.From) ≡ to (table_wanted is None) (at 0 (keyword k.From))

-- what may follow the clauses up to WHERE
pub record ActsFiltered (from : ParserState) (f : Filtered) : Type 0 where
  pub groups : next_step from (keyword k.Group) ≡ to (group_had f) (at 0 (keyword k.Group))
  pub order : next_step from (keyword k.Order)
      ≡ to (order_had (grouped_by f ungrouped)) (at 0 (keyword k.Order))
  pub semicolon : next_step from (sign s.Semicolon)
      ≡ to (ended (grouped_by f ungrouped) None) (at 0 (sign s.Semicolon))
  pub whole : query_at_end from ≡ Some (query_of (grouped_by f ungrouped) None false)

-- what may follow the clauses up to GROUP BY
pub record ActsGrouped (from : ParserState) (g : Grouped) : Type 0 where
  pub order : next_step from (keyword k.Order) ≡ to (order_had g) (at 0 (keyword k.Order))
  pub semicolon : next_step from (sign s.Semicolon) ≡ to (ended g None) (at 0 (sign s.Semicolon))
  pub whole : query_at_end from ≡ Some (query_of g None false)

-- what may follow sort keys
pub record ActsKeys (from : ParserState) (g : Grouped) (ks : Several Key) : Type 0 where
  pub comma : next_step from (sign s.Comma) ≡ to (key_wanted g (Some ks)) (at 0 (sign s.Comma))
  pub semicolon : next_step from (sign s.Semicolon)
      ≡ to (ended g (Some ks)) (at 0 (sign s.Semicolon))
  pub whole : query_at_end from ≡ Some (query_of g (Some ks) false)

item_goes : (i : Item) (b : Option (Several Item)) (rest : List Mark) (q : Query)
    → ((from : ParserState) → ActsItems from (extended b i) → Accepts from rest q)
    → Accepts (item_wanted b) (item_marks i rest) q
item_goes (plain i) b rest q g = step refl (g _ (record { comma = refl; tables = refl }))
item_goes (aggregate a None) b rest q g =
    agg_goes a b rest q (g (agg_had b a) (record { comma = refl; tables = refl }))
item_goes (aggregate a (Some i)) b rest q g = agg_goes a b _ q
    (step refl (step refl (g (items_had (extended b (aggregate a (Some i))))
    (record { comma = refl; tables = refl }))))

items_goes : (is : Several Item) (rest : List Mark) (q : Query)
    → ((from : ParserState) → ActsItems from is → Accepts from rest q)
    → Accepts (item_wanted None) (several_marks item_marks is rest) q
items_goes (one i) rest q g = item_goes i None rest q g
items_goes (more is i) rest q g =
    items_goes is _ q (λ from acts. step acts.comma (item_goes i (Some is) rest q g))

tables_goes : (ts : Several Name) (is : Several Item) (rest : List Mark) (q : Query)
    → Accepts (tables_had is ts) rest q
    → Accepts (table_wanted is None) (several_marks table_marks ts rest) q
tables_goes (one t) is rest q g = step refl g
tables_goes (more ts t) is rest q g = tables_goes ts is _ q (step refl (step refl g))

cond_acts : (a : Cond) (is : Several Item) (ts : Several Name)
    → ActsFiltered (cond_had a (in_where is ts)) (filtered_by is ts (Some a))
cond_acts it is ts = grind arith

where_goes : (c : Option Cond) (is : Several Item) (ts : Several Name) (rest : List Mark)
    (q : Query) → ((from : ParserState) → ActsFiltered from (filtered_by is ts c)
    → Accepts from rest q) → Accepts (tables_had is ts) (where_marks c rest) q
where_goes None is ts rest q g =
    g (tables_had is ts) (record { groups = refl; order = refl; semicolon = refl; whole = refl })
where_goes (Some a) is ts rest q g = step refl
    (cond_goes a (in_where is ts) rest q (g (cond_had a (in_where is ts)) (cond_acts a is ts)))

columns_goes : (h : Hiding) (is : Several Name) (f : Filtered) (rest : List Mark) (q : Query)
    → Accepts (columns_had f (Some h) is) rest q
    → Accepts (column_wanted f (Some h) None) (several_marks column_marks is rest) q
columns_goes h (one i) f rest q g = step refl g
columns_goes h (more is i) f rest q g = columns_goes h is f _ q (step refl (step refl g))

by_goes : (is : Several Name) (f : Filtered) (rest : List Mark) (q : Query)
    → Accepts (columns_had f None is) rest q
    → Accepts (by_had f) (several_marks column_marks is rest) q
by_goes (one i) f rest q g = step refl g
by_goes (more is i) f rest q g = by_goes is f _ q (step refl (step refl g))

hiding_goes : (h : Hiding) (f : Filtered) (is : Several Name) (rest : List Mark) (q : Query)
    → Accepts (columns_had f (Some h) is) rest q
    → Accepts (by_had f) (at 0 (keyword (hiding_word h)) ∷ at 0 (sign s.Open)
    ∷ several_marks column_marks is rest) q
hiding_goes cube f is rest q g = step refl (step refl (columns_goes cube is f rest q g))
hiding_goes rollup f is rest q g = step refl (step refl (columns_goes rollup is f rest q g))

groups_goes : (gs : Groups) (f : Filtered) (from : ParserState) → ActsFiltered from f
    → (rest : List Mark) (q : Query)
    → ((from : ParserState) → ActsGrouped from (grouped_by f gs) → Accepts from rest q)
    → Accepts from (groups_marks gs rest) q
groups_goes ungrouped f from acts rest q g =
    g from (record { order = acts.order; semicolon = acts.semicolon; whole = acts.whole })
groups_goes (grouped is) f from acts rest q g = step acts.groups (step refl (by_goes is f rest q
    (g (columns_had f None is) (record { order = refl; semicolon = refl; whole = refl }))))
groups_goes (hiding h is) f from acts rest q g =
    let had = grouped_had (grouped_by f (hiding h is)) in
    step acts.groups (step refl (hiding_goes h f is _ q
    (step refl (g had (record { order = refl; semicolon = refl; whole = refl })))))

key_goes : (i : Key) (g : Grouped) (b : Option (Several Key)) (rest : List Mark) (q : Query)
    → ((from : ParserState) → ActsKeys from g (extended b i) → Accepts from rest q)
    → Accepts (key_wanted g b) (key_marks i rest) q
key_goes (unmarked i) g b rest q go =
    step refl (go (key_named g b i) (record { comma = refl; semicolon = refl; whole = refl }))
key_goes (ascending i) g b rest q go = step refl (step refl
    (go (keys_had g (extended b (ascending i)))
    (record { comma = refl; semicolon = refl; whole = refl })))
key_goes (descending i) g b rest q go = step refl (step refl
    (go (keys_had g (extended b (descending i)))
    (record { comma = refl; semicolon = refl; whole = refl })))

keys_list_goes : (ks : Several Key) (g : Grouped) (rest : List Mark) (q : Query)
    → ((from : ParserState) → ActsKeys from g ks → Accepts from rest q)
    → Accepts (key_wanted g None) (several_marks key_marks ks rest) q
keys_list_goes (one i) g rest q go = key_goes i g None rest q go
keys_list_goes (more ks i) g rest q go =
    keys_list_goes ks g _ q (λ from acts. step acts.comma (key_goes i g (Some ks) rest q go))

end_goes : (end : Bool) (g : Grouped) (ks : Option (Several Key)) (from : ParserState)
    → next_step from (sign s.Semicolon) ≡ to (ended g ks) (at 0 (sign s.Semicolon))
    → query_at_end from ≡ Some (query_of g ks false)
    → Accepts from (end_marks end) (query_of g ks end)
end_goes false g ks from semicolon whole = at_end whole
end_goes true g ks from semicolon whole = step semicolon (at_end refl)

keys_goes : (ks : Option (Several Key)) (end : Bool) (g : Grouped) (from : ParserState)
    → ActsGrouped from g → Accepts from (keys_marks ks (end_marks end)) (query_of g ks end)
keys_goes None end g from acts = end_goes end g None from acts.semicolon acts.whole
keys_goes (Some ks) end g from acts = step acts.order (step refl
    (keys_list_goes ks g (end_marks end) (query_of g (Some ks) end)
    (λ last had. end_goes end g (Some ks) last had.semicolon had.whole)))

-- each query is accepted as itself
pub query_goes : (q : Query) → Accepts begin (query_marks q) q
query_goes q =
    let f = filtered_by q.items q.tables q.condition in
    step refl (items_goes q.items _ q (λ from acts.
    step acts.tables (tables_goes q.tables q.items _ q
    (where_goes q.condition q.items q.tables _ q
    (λ had filtered. groups_goes q.groups f had filtered _ q
    (λ last grouped. keys_goes q.keys q.semicolon (grouped_by f q.groups) last grouped))))))
