-- What was read on the way to a state, and that each step reads one symbol more.
use Rattle.std.proofs.Common.{◌≡◌, ◌∙◌, ◌+◌, List, [], ◌∷◌, Option, Some, None, refl, subst, arith}
use Rattle.star_query.specs.declared.token.Keyword.TheVariants as k
use Rattle.star_query.specs.declared.token.Sign.TheVariants as s
use Rattle.star_query.specs.{declared.token.Additive.TheVariants.Minus, declared.token.Relation.Relation, Tree.Name, Grammar.Mark, Symbols.{Symbol, keyword, fold, count, relation, sign, additive}, Private.Phrases.{Several, Expr, Term, Factor, Lit, Cond, Conj, Unary, not_unit, Item, Key, at, first, ident, function, expr_marks, term_marks, factor_marks, lit_marks, cond_marks, conj_marks, unit_marks, agg_marks, item_marks, table_marks, column_marks, key_marks, several_marks, where_marks, groups_marks, keys_marks, Hiding, hiding_word}, Private.Machine.{extended, ExprHole, in_fold, in_parens, TermHole, first_term, next_term, FactorHole, first_factor, next_factor, CondHole, in_where, in_group, ConjHole, first_conj, next_conj, UnitHole, first_unit, next_unit, under_not, LitHole, compared, low, high, Filtered, Grouped, expr_depth, term_depth, factor_depth, cond_depth, conj_depth, unit_depth, lit_depth, ParserState, begin, item_wanted, fold_named, count_named, count_opened, count_starred, factor_wanted, factor_negative, term_had, agg_had, alias_wanted, items_had, table_wanted, tables_had, unit_wanted, unit_named, equal_had, lit_wanted, lit_negative, low_had, conj_had, filtered_had, group_had, by_had, hiding_had, column_wanted, columns_had, grouped_had, order_had, key_wanted, key_named, keys_had, done, ended, Step, give_factor, joined_expr, around_term, give_unit, joined_cond, around_conj, give_lit, behind_relation, closed_expr, on_items, on_done, on_grouped, on_filtered, on_lit, closed_cond, on_cond, on_column, on_keys, next_step}}
use Rattle.star_query.specs.declared.token.Relation.TheVariants as r
use Rattle.star_query.specs.declared.counts.Part.TheVariants as part

abbrev pub before_marks : {A : Type 0} → (A → List Mark → List Mark) → Option (Several A)
    → List Mark → List Mark
before_marks marks None rest = rest
before_marks marks (Some xs) rest = several_marks marks xs (at 0 (sign s.Comma) ∷ rest)

abbrev pub select_passed : Option (Several Item) → List Mark → List Mark
select_passed b rest = at 0 (keyword k.Select) ∷ before_marks item_marks b rest

abbrev pub items_passed : Several Item → List Mark → List Mark
items_passed is rest = at 0 (keyword k.Select) ∷ several_marks item_marks is rest

abbrev pub tables_passed : Several Item → Several Name → List Mark → List Mark
tables_passed is ts rest =
    items_passed is (at 0 (keyword k.From) ∷ several_marks table_marks ts rest)

abbrev pub filtered_passed : Filtered → List Mark → List Mark
filtered_passed f rest = tables_passed f.items f.tables (where_marks f.condition rest)

abbrev pub by_passed : Filtered → List Mark → List Mark
by_passed f rest = filtered_passed f (at 0 (keyword k.Group) ∷ at 0 (keyword k.By) ∷ rest)

abbrev pub hiding_passed : Option Hiding → List Mark → List Mark
hiding_passed None rest = rest
hiding_passed (Some h) rest = at 0 (keyword (hiding_word h)) ∷ at 0 (sign s.Open) ∷ rest

abbrev pub grouped_passed : Grouped → List Mark → List Mark
grouped_passed g rest = filtered_passed g.filtered (groups_marks g.groups rest)

abbrev pub order_passed : Grouped → List Mark → List Mark
order_passed g rest = grouped_passed g (at 0 (keyword k.Order) ∷ at 0 (keyword k.By) ∷ rest)

abbrev mutual
  pub expr_passed : ExprHole → List Mark → List Mark
  expr_passed (in_fold b f p) rest =
      select_passed b (function (fold f p) ∷ at 0 (sign s.Open) ∷ rest)
  expr_passed (in_parens h) rest = factor_passed h (at (factor_depth h + 1) (sign s.Open) ∷ rest)

  pub term_passed : TermHole → List Mark → List Mark
  term_passed (first_term h) rest = expr_passed h rest
  term_passed (next_term e q h) rest =
      expr_passed h (expr_marks (expr_depth h) e (at (expr_depth h) (additive q) ∷ rest))

  pub factor_passed : FactorHole → List Mark → List Mark
  factor_passed (first_factor h) rest = term_passed h rest
  factor_passed (next_factor t h) rest =
      term_passed h (term_marks (term_depth h) t (at (term_depth h) (sign s.Star) ∷ rest))

abbrev mutual
  pub cond_passed : CondHole → List Mark → List Mark
  cond_passed (in_where is ts) rest = tables_passed is ts (at 0 (keyword k.Where) ∷ rest)
  cond_passed (in_group h) rest = unit_passed h (at (unit_depth h + 1) (sign s.Open) ∷ rest)

  pub conj_passed : ConjHole → List Mark → List Mark
  conj_passed (first_conj h) rest = cond_passed h rest
  conj_passed (next_conj a h) rest =
      cond_passed h (cond_marks (cond_depth h) a (at (cond_depth h) (keyword k.Or) ∷ rest))

  pub unit_passed : UnitHole → List Mark → List Mark
  unit_passed (first_unit h) rest = conj_passed h rest
  unit_passed (next_unit c h) rest =
      conj_passed h (conj_marks (conj_depth h) c (at (conj_depth h) (keyword k.And) ∷ rest))
  unit_passed (under_not h) rest =
      unit_passed h (first (part.Comparison ∷ []) (unit_depth h + 1) (keyword k.Not) ∷ rest)

-- a comparison's column was read
abbrev pub named_passed : UnitHole → Name → List Mark → List Mark
named_passed h i rest = unit_passed h (first (part.Comparison ∷ []) (unit_depth h) (ident i) ∷ rest)

abbrev pub between_passed : UnitHole → Name → List Mark → List Mark
between_passed h i rest = named_passed h i (at (unit_depth h) (keyword k.Between) ∷ rest)

abbrev pub lit_passed : LitHole → List Mark → List Mark
lit_passed (compared h i q) rest = named_passed h i (at (unit_depth h) (relation q) ∷ rest)
lit_passed (low h i) rest = between_passed h i rest
lit_passed (high h i l) rest =
    between_passed h i (lit_marks (unit_depth h) l (at (unit_depth h) (keyword k.And) ∷ rest))

abbrev pub passed : ParserState → List Mark → List Mark
passed begin rest = rest
passed (item_wanted b) rest = select_passed b rest
passed (fold_named b f p) rest = select_passed b (function (fold f p) ∷ rest)
passed (count_named b p) rest = select_passed b (function (count p) ∷ rest)
passed (count_opened b p) rest = select_passed b (function (count p) ∷ at 0 (sign s.Open) ∷ rest)
passed (count_starred b p) rest =
    select_passed b (function (count p) ∷ at 0 (sign s.Open) ∷ at 0 (sign s.Star) ∷ rest)
passed (factor_wanted h) rest = factor_passed h rest
passed (factor_negative h) rest = factor_passed h (at (factor_depth h) (additive Minus) ∷ rest)
passed (term_had t h) rest = term_passed h (term_marks (term_depth h) t rest)
passed (agg_had b a) rest = select_passed b (agg_marks a rest)
passed (alias_wanted b a) rest = select_passed b (agg_marks a (at 0 (keyword k.As) ∷ rest))
passed (items_had is) rest = items_passed is rest
passed (table_wanted is b) rest =
    items_passed is (at 0 (keyword k.From) ∷ before_marks table_marks b rest)
passed (tables_had is ts) rest = tables_passed is ts rest
passed (unit_wanted h) rest = unit_passed h rest
passed (unit_named h i) rest = named_passed h i rest
passed (equal_had h i) rest = lit_passed (compared h i r.Equal) rest
passed (lit_wanted h) rest = lit_passed h rest
passed (lit_negative h) rest = lit_passed h (at (lit_depth h) (additive Minus) ∷ rest)
passed (low_had h i l) rest = between_passed h i (lit_marks (unit_depth h) l rest)
passed (conj_had c h) rest = conj_passed h (conj_marks (conj_depth h) c rest)
passed (filtered_had f) rest = filtered_passed f rest
passed (group_had f) rest = filtered_passed f (at 0 (keyword k.Group) ∷ rest)
passed (by_had f) rest = by_passed f rest
passed (hiding_had f h) rest = by_passed f (at 0 (keyword (hiding_word h)) ∷ rest)
passed (column_wanted f h b) rest = by_passed f (hiding_passed h (before_marks column_marks b rest))
passed (columns_had f h is) rest =
    by_passed f (hiding_passed h (several_marks column_marks is rest))
passed (grouped_had g) rest = grouped_passed g rest
passed (order_had g) rest = grouped_passed g (at 0 (keyword k.Order) ∷ rest)
passed (key_wanted g b) rest = order_passed g (before_marks key_marks b rest)
passed (key_named g b i) rest =
    order_passed g (before_marks key_marks b (first (part.SortKey ∷ []) 0 (ident i) ∷ rest))
passed (keys_had g ks) rest = order_passed g (several_marks key_marks ks rest)
passed (done g ks) rest = grouped_passed g (keys_marks ks rest)
passed (ended g ks) rest = grouped_passed g (keys_marks ks (at 0 (sign s.Semicolon) ∷ rest))

pub several-extended : {A : Type 0} (marks : A → List Mark → List Mark) (b : Option (Several A))
    (x : A) (rest : List Mark)
    → several_marks marks (extended b x) rest ≡ before_marks marks b (marks x rest)
several-extended marks None x rest = refl
several-extended marks (Some xs) x rest = refl

-- a step reads the symbol, and no more
pub record Moves (from : ParserState) (x : Symbol) (st : Step) : Type 0 where
  pub symbol : st.at.symbol ≡ x
  pub more : (rest : List Mark) → passed st.next rest ≡ passed from (st.at ∷ rest)

abbrev pub IfStep : Option Step → (Step → Type 0) → Type 0
IfStep None P = Unit {0}
IfStep (Some st) P = P st

moves : (from : ParserState) (x : Symbol) (next : ParserState) (m : Mark) → m.symbol ≡ x
    → ((rest : List Mark) → passed next rest ≡ passed from (m ∷ rest))
    → Moves from x (record { next = next; at = m })
moves from x next m e f = record { symbol = e; more = f }

-- the same from a state on whose way the same was read
moves_along : (from other : ParserState) (x : Symbol) (o : Option Step)
    → ((rest : List Mark) → passed other rest ≡ passed from rest) → IfStep o (Moves other x)
    → IfStep o (Moves from x)
moves_along from other x None same m = tt
moves_along from other x (Some st) same m =
    record { symbol = m.symbol; more = λ rest. m.more rest ∙ same (st.at ∷ rest) }

give_factor_passed : (h : FactorHole) (f : Factor) (rest : List Mark)
    → passed (give_factor f h) rest ≡ factor_passed h (factor_marks (factor_depth h) f rest)
give_factor_passed (first_factor h) f rest = refl
give_factor_passed (next_factor t h) f rest = refl

joined_expr_passed : (h : TermHole) (t : Term) (rest : List Mark)
    → expr_passed (around_term h) (expr_marks (expr_depth (around_term h)) (joined_expr t h) rest)
    ≡ term_passed h (term_marks (term_depth h) t rest)
joined_expr_passed (first_term h) t rest = refl
joined_expr_passed (next_term e q h) t rest = refl

same_depth : (h : TermHole) → expr_depth (around_term h) ≡ term_depth h
same_depth (first_term h) = refl
same_depth (next_term e q h) = refl

give_unit_passed : (h : UnitHole) (u : Unary) (rest : List Mark)
    → passed (give_unit u h) rest ≡ unit_passed h (unit_marks (unit_depth h) u rest)
give_unit_passed (first_unit h) u rest = refl
give_unit_passed (next_unit c h) u rest = refl
give_unit_passed (under_not h) u rest = give_unit_passed h (not_unit u) rest

pub joined_cond_passed : (h : ConjHole) (c : Conj) (rest : List Mark)
    → cond_passed (around_conj h) (cond_marks (cond_depth (around_conj h)) (joined_cond c h) rest)
    ≡ conj_passed h (conj_marks (conj_depth h) c rest)
joined_cond_passed (first_conj h) c rest = refl
joined_cond_passed (next_conj a h) c rest = refl

give_lit_passed : (h : LitHole) (l : Lit) (rest : List Mark)
    → passed (give_lit l h) rest ≡ lit_passed h (lit_marks (lit_depth h) l rest)
give_lit_passed it l rest = grind (arith, give_unit_passed)

close_moves : (t : Term) (h : TermHole) (e : Expr) (o : ExprHole)
    → ((rest : List Mark) → expr_passed o (expr_marks (expr_depth o) e rest)
    ≡ term_passed h (term_marks (term_depth h) t rest))
    → IfStep (closed_expr e o) (Moves (term_had t h) (sign s.Close))
close_moves t h e it same = grind (arith, moves, give_factor_passed)

items_moves : (is : Several Item) (x : Symbol) → IfStep (on_items is x) (Moves (items_had is) x)
items_moves is it = grind (arith, moves)

done_moves : (g : Grouped) (ks : Option (Several Key)) (x : Symbol)
    → IfStep (on_done g ks x) (Moves (done g ks) x)
done_moves g ks (sign s.Semicolon) = moves _ _ _ _ refl (λ rest. refl)
done_moves g ks _ = tt

grouped_moves : (g : Grouped) (x : Symbol) → IfStep (on_grouped g x) (Moves (grouped_had g) x)
grouped_moves g it = grind (arith, moves, moves_along, done_moves)

filtered_moves : (f : Filtered) (x : Symbol) → IfStep (on_filtered f x) (Moves (filtered_had f) x)
filtered_moves f x = grind (arith, moves, moves_along, grouped_moves)

relation_passed : (h : UnitHole) (i : Name) (q : Relation) (rest : List Mark)
    → passed (behind_relation h i q) rest ≡ lit_passed (compared h i q) rest
relation_passed h i r.Equal rest = refl
relation_passed h i _ rest = refl

lit_moves : (h : LitHole) (x : Symbol) → IfStep (on_lit h x) (Moves (lit_wanted h) x)
lit_moves h it = grind (arith, moves, give_lit_passed)

closed_moves : (from : ParserState) (a : Cond) (h : UnitHole) (x : Symbol)
    → ((rest : List Mark) → cond_passed (in_group h) (cond_marks (unit_depth h + 1) a rest)
    ≡ passed from rest) → IfStep (closed_cond a h x) (Moves from x)
closed_moves from a h it same = grind (arith, moves, give_unit_passed)

cond_moves : (from : ParserState) (a : Cond) (h : CondHole) (x : Symbol)
    → ((rest : List Mark) → cond_passed h (cond_marks (cond_depth h) a rest) ≡ passed from rest)
    → IfStep (on_cond a h x) (Moves from x)
cond_moves from a it x same = grind (arith, moves_along, filtered_moves, closed_moves)

conj_depth_around : (h : ConjHole) → cond_depth (around_conj h) ≡ conj_depth h
conj_depth_around (first_conj h) = refl
conj_depth_around (next_conj a h) = refl

column_moves : (f : Filtered) (h : Option Hiding) (b : Option (Several Name)) (x : Symbol)
    → IfStep (on_column f h b x) (Moves (column_wanted f h b) x)
column_moves f h b it = grind (arith, moves, several-extended)

keys_moves : (g : Grouped) (ks : Several Key) (x : Symbol)
    → IfStep (on_keys g ks x) (Moves (keys_had g ks) x)
keys_moves g ks it = grind (arith, moves, moves_along, done_moves)

all_moves : (from : ParserState) (x : Symbol) → IfStep (next_step from x) (Moves from x)
all_moves from x =
    grind (
      arith,
      moves,
      several-extended,
      give_factor_passed,
      same_depth,
      joined_expr_passed,
      close_moves,
      moves_along,
      items_moves,
      filtered_moves,
      relation_passed,
      give_unit_passed,
      lit_moves,
      give_lit_passed,
      conj_depth_around,
      joined_cond_passed,
      cond_moves,
      column_moves,
      grouped_moves,
      keys_moves,
      done_moves,
    )

pub step_moves : (from : ParserState) (x : Symbol) (st : Step) → next_step from x ≡ Some st
    → Moves from x st
step_moves from x st e = subst (λ o. IfStep o (Moves from x)) e (all_moves from x)
