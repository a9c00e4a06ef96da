-- The marks of each phrase as one list, in the order and words of the grammar's relation.
use Rattle.std.proofs.{Common.{◌≡◌, ◌∙◌, ℕ, ◌+◌, List, [], ◌∷◌, ◌++◌, map, Option, Some, None, refl, sym, ap, arith, append_assoc, true, false, Bool, if◌then◌else◌}, lemmas.List.map-append}
use Rattle.star_query.specs.declared.token.Sign.TheVariants as s
use Rattle.star_query.specs.declared.token.Keyword.TheVariants as k
use Rattle.star_query.specs.{declared.token.Additive.TheVariants.Minus, declared.counts.Part.Part, Symbols.{Symbol, sign, additive, keyword, relation, number, text, fold, count}, Tree.Name, Private.Phrases.{Expr, Term, Factor, Lit, Cond, Conj, Unary, Agg, Groups, Key, Query, agg_marks, item_marks, key_marks, several_marks, table_marks, column_marks, where_marks, groups_marks, keys_marks, end_marks, query_marks, expr_marks, term_marks, factor_marks, lit_marks, cond_marks, conj_marks, unit_marks}, Grammar.{Mark, nested, bracketed}}
use Rattle.star_query.specs.declared.token.Relation.TheVariants as r
use Rattle.star_query.specs.declared.counts.Part.TheVariants as part
use Rattle.star_query.specs.Private.Phrases as g
use Rattle.star_query.specs.Grammar as w

-- what is written before the rest are these marks
pub record Flat (marks : List Mark → List Mark) (ms : List Mark) : Type 0 where
  pub written : (rest : List Mark) → marks rest ≡ ms ++ rest

abbrev under : ℕ → List Mark → List Mark
under d ms = map (λ m. record { symbol = m.symbol; depth = m.depth + d; parts = m.parts }) ms

-- and so under any nestings
pub record Deep (marks : ℕ → List Mark → List Mark) (ms : List Mark) : Type 0 where
  pub written : (d : ℕ) (rest : List Mark) → marks d rest ≡ under d ms ++ rest

-- ---- one phrase after another

both : {a b : List Mark → List Mark} {ms ns : List Mark} → Flat a ms → Flat b ns
    → Flat (λ rest. a (b rest)) (ms ++ ns)
both {a} {b} {ms} {ns} wa wb =
    record {
      written = λ rest. wa.written (b rest) ∙ ap (λ l. ms ++ l) (wb.written rest)
          ∙ sym (append_assoc ms ns rest);
    }

mark : (m : Mark) → Flat (λ rest. m ∷ rest) (m ∷ [])
mark m = record { written = λ rest. refl }

joined : {a b : ℕ → List Mark → List Mark} {ms ns : List Mark} → Deep a ms → Deep b ns
    → Deep (λ d rest. a d (b d rest)) (ms ++ ns)
joined {a} {b} {ms} {ns} wa wb =
    record {
      written = λ d rest. wa.written d (b d rest) ∙ ap (λ l. under d ms ++ l) (wb.written d rest)
          ∙ sym (append_assoc (under d ms) (under d ns) rest)
          ∙ ap (λ l. l ++ rest) (sym (map-append _ ms ns));
    }

one : (ps : List Part) (x : Symbol) → Deep (λ d rest. g.first ps d x ∷ rest) (w.counted ps x ∷ [])
one ps x =
    record {
      written = λ d rest. let e : d ≡ 0 + d = omega arith in ap (λ n. g.first ps n x ∷ rest) e;
    }

in_brackets : {a : ℕ → List Mark → List Mark} {ms : List Mark} → Deep a ms
    → Deep (λ d rest. g.at d (sign s.Open) ∷ a d (g.at d (sign s.Close) ∷ rest)) (bracketed ms)
in_brackets wa = joined (one [] (sign s.Open)) (joined wa (one [] (sign s.Close)))

under_nested : (d : ℕ) (ms : List Mark) → under (d + 1) ms ≡ under d (nested ms)
under_nested d [] = refl
under_nested d (m ∷ ms) = grind (arith, under_nested d ms)

deeper : {a : ℕ → List Mark → List Mark} {ms : List Mark} → Deep a ms
    → Deep (λ d. a (d + 1)) (nested ms)
deeper {a} {ms} wa =
    record {
      written = λ d rest. wa.written (d + 1) rest ∙ ap (λ l. l ++ rest) (under_nested d ms);
    }

under_none : (ms : List Mark) → under 0 ms ≡ ms
under_none [] = refl
under_none (m ∷ ms) = grind (arith, under_none ms)

flat : {a : ℕ → List Mark → List Mark} {ms : List Mark} → Deep a ms → Flat (a 0) ms
flat {a} {ms} wa =
    record { written = λ rest. wa.written 0 rest ∙ ap (λ l. l ++ rest) (under_none ms) }

-- ---- expressions

abbrev mutual
  pub flat_expr : Expr → List Mark
  flat_expr (g.lone_term t) = flat_term t
  flat_expr (g.plus_or_minus e q t) = flat_expr e ++ w.at (additive q) ∷ flat_term t

  pub flat_term : Term → List Mark
  flat_term (g.lone_factor f) = flat_factor f
  flat_term (g.times t f) = flat_term t ++ w.at (sign s.Star) ∷ flat_factor f

  pub flat_factor : Factor → List Mark
  flat_factor (g.column i) = w.named (part.Operand ∷ []) i
  flat_factor (g.constant n) = w.counted (part.Operand ∷ []) (number n) ∷ []
  flat_factor (g.negative n) =
      w.at (additive Minus) ∷ w.counted (part.Operand ∷ []) (number n) ∷ []
  flat_factor (g.parens e) = nested (bracketed (flat_expr e))

mutual
  expr_written : (x : Expr) → Deep (λ d. expr_marks d x) (flat_expr x)
  expr_written (g.lone_term t) = term_written t
  expr_written (g.plus_or_minus e q t) =
      joined (expr_written e) (joined (one [] (additive q)) (term_written t))

  term_written : (x : Term) → Deep (λ d. term_marks d x) (flat_term x)
  term_written (g.lone_factor f) = factor_written f
  term_written (g.times t f) =
      joined (term_written t) (joined (one [] (sign s.Star)) (factor_written f))

  factor_written : (x : Factor) → Deep (λ d. factor_marks d x) (flat_factor x)
  factor_written (g.column i) = one (part.Operand ∷ []) (g.ident i)
  factor_written (g.constant n) = one (part.Operand ∷ []) (number n)
  factor_written (g.negative n) =
      joined (one [] (additive Minus)) (one (part.Operand ∷ []) (number n))
  factor_written (g.parens e) = deeper (in_brackets (expr_written e))

-- ---- literals and conditions

abbrev pub flat_lit : Lit → List Mark
flat_lit (g.unsigned_literal n) = w.at (number n) ∷ []
flat_lit (g.negative_literal n) = w.at (additive Minus) ∷ w.at (number n) ∷ []
flat_lit (g.string_literal t) = w.at (text t) ∷ []

lit_written : (x : Lit) → Deep (λ d. lit_marks d x) (flat_lit x)
lit_written (g.unsigned_literal n) = one [] (number n)
lit_written (g.negative_literal n) = joined (one [] (additive Minus)) (one [] (number n))
lit_written (g.string_literal t) = one [] (text t)

abbrev mutual
  pub flat_cond : Cond → List Mark
  flat_cond (g.lone_conj c) = flat_conj c
  flat_cond (g.or_conj a c) = flat_cond a ++ w.at (keyword k.Or) ∷ flat_conj c

  pub flat_conj : Conj → List Mark
  flat_conj (g.lone_unit u) = flat_unit u
  flat_conj (g.and_unit c u) = flat_conj c ++ w.at (keyword k.And) ∷ flat_unit u

  pub flat_unit : Unary → List Mark
  flat_unit (g.not_unit u) = nested (w.counted (part.Comparison ∷ []) (keyword k.Not) ∷ flat_unit u)
  flat_unit (g.group c) = nested (bracketed (flat_cond c))
  flat_unit (g.pair a b) = w.compared a ++ w.at (relation r.Equal) ∷ w.named [] b
  flat_unit (g.compare a q l) = w.compared a ++ w.at (relation q) ∷ flat_lit l
  flat_unit (g.between a l h) =
      w.compared a ++ w.at (keyword k.Between) ∷ (flat_lit l ++ w.at (keyword k.And) ∷ flat_lit h)

compared : (i : Name) (x : Symbol) {a : ℕ → List Mark → List Mark} {ms : List Mark} → Deep a ms
    → Deep (λ d rest. g.first (part.Comparison ∷ []) d (g.ident i) ∷ g.at d x ∷ a d rest)
    (w.compared i ++ w.at x ∷ ms)
compared i x wa = joined (one (part.Comparison ∷ []) (g.ident i)) (joined (one [] x) wa)

mutual
  cond_written : (x : Cond) → Deep (λ d. cond_marks d x) (flat_cond x)
  cond_written (g.lone_conj c) = conj_written c
  cond_written (g.or_conj a c) =
      joined (cond_written a) (joined (one [] (keyword k.Or)) (conj_written c))

  conj_written : (x : Conj) → Deep (λ d. conj_marks d x) (flat_conj x)
  conj_written (g.lone_unit u) = unit_written u
  conj_written (g.and_unit c u) =
      joined (conj_written c) (joined (one [] (keyword k.And)) (unit_written u))

  unit_written : (x : Unary) → Deep (λ d. unit_marks d x) (flat_unit x)
  unit_written (g.not_unit u) =
      deeper (joined (one (part.Comparison ∷ []) (keyword k.Not)) (unit_written u))
  unit_written (g.group c) = deeper (in_brackets (cond_written c))
  unit_written (g.pair a b) = compared a (relation r.Equal) (one [] (g.ident b))
  unit_written (g.compare a q l) = compared a (relation q) (lit_written l)
  unit_written (g.between a l h) = compared a (keyword k.Between)
      (joined (lit_written l) (joined (one [] (keyword k.And)) (lit_written h)))

-- ---- the clauses of a query, which are under no nesting

abbrev pub flat_several : {A : Type 0} → (A → List Mark) → g.Several A → List Mark
flat_several flat (g.one x) = flat x
flat_several flat (g.more xs x) = flat_several flat xs ++ w.at (sign s.Comma) ∷ flat x

several_written : {A : Type 0} (marks : A → List Mark → List Mark) (flat : A → List Mark)
    → ((x : A) → Flat (marks x) (flat x)) → (xs : g.Several A)
    → Flat (several_marks marks xs) (flat_several flat xs)
several_written marks flat each (g.one x) = each x
several_written marks flat each (g.more xs x) =
    both (several_written marks flat each xs) (both (mark (w.at (sign s.Comma))) (each x))

abbrev pub flat_agg : Agg → List Mark
flat_agg (g.folded f p e) = w.called (fold f p) (flat_expr e)
flat_agg (g.counted p) = w.called (count p) (w.at (sign s.Star) ∷ [])

abbrev pub flat_item : g.Item → List Mark
flat_item (g.plain n) = w.named (part.Item ∷ []) n
flat_item (g.aggregate a None) = flat_agg a
flat_item (g.aggregate a (Some n)) = flat_agg a ++ w.at (keyword k.As) ∷ w.named [] n

enclosed : {a : List Mark → List Mark} {ms : List Mark} → Flat a ms
    → Flat (λ rest. g.at 0 (sign s.Open) ∷ a (g.at 0 (sign s.Close) ∷ rest)) (bracketed ms)
enclosed wa = both (mark (w.at (sign s.Open))) (both wa (mark (w.at (sign s.Close))))

agg_written : (x : Agg) → Flat (agg_marks x) (flat_agg x)
agg_written (g.folded f p e) =
    both (mark (g.function (fold f p))) (enclosed (flat (expr_written e)))
agg_written (g.counted p) = record { written = λ rest. refl }

item_written : (x : g.Item) → Flat (item_marks x) (flat_item x)
item_written (g.plain n) = mark (g.first (part.Item ∷ []) 0 (g.ident n))
item_written (g.aggregate a None) = agg_written a
item_written (g.aggregate a (Some n)) =
    both (agg_written a) (both (mark (w.at (keyword k.As))) (mark (w.at (g.ident n))))

abbrev pub flat_where : Option Cond → List Mark
flat_where None = []
flat_where (Some c) = w.at (keyword k.Where) ∷ flat_cond c

where_written : (x : Option Cond) → Flat (where_marks x) (flat_where x)
where_written None = record { written = λ rest. refl }
where_written (Some c) = both (mark (w.at (keyword k.Where))) (flat (cond_written c))

abbrev pub flat_columns : g.Several Name → List Mark
flat_columns is = flat_several (λ n. w.named (part.GroupColumn ∷ []) n) is

abbrev pub flat_groups : Groups → List Mark
flat_groups g.ungrouped = []
flat_groups (g.grouped is) = w.by k.Group (flat_columns is)
flat_groups (g.hiding h is) =
    w.by k.Group (w.at (keyword (g.hiding_word h)) ∷ bracketed (flat_columns is))

columns_written : (xs : g.Several Name) → Flat (several_marks column_marks xs) (flat_columns xs)
columns_written xs = several_written column_marks (λ n. w.named (part.GroupColumn ∷ []) n)
    (λ n. mark (g.first (part.GroupColumn ∷ []) 0 (g.ident n))) xs

two_marks : (x y : Mark) {a : List Mark → List Mark} {ms : List Mark} → Flat a ms
    → Flat (λ rest. x ∷ y ∷ a rest) (x ∷ y ∷ ms)
two_marks x y wa = both (mark x) (both (mark y) wa)

groups_written : (x : Groups) → Flat (groups_marks x) (flat_groups x)
groups_written g.ungrouped = record { written = λ rest. refl }
groups_written (g.grouped is) =
    two_marks (w.at (keyword k.Group)) (w.at (keyword k.By)) (columns_written is)
groups_written (g.hiding h is) =
    two_marks (w.at (keyword k.Group)) (w.at (keyword k.By))
    (both (mark (w.at (keyword (g.hiding_word h)))) (enclosed (columns_written is)))

abbrev pub flat_key : Key → List Mark
flat_key x = key_marks x []

key_written : (x : Key) → Flat (key_marks x) (flat_key x)
key_written (g.unmarked n) = record { written = λ rest. refl }
key_written (g.ascending n) = record { written = λ rest. refl }
key_written (g.descending n) = record { written = λ rest. refl }

abbrev pub flat_order : Option (g.Several Key) → List Mark
flat_order None = []
flat_order (Some xs) = w.by k.Order (flat_several flat_key xs)

order_written : (x : Option (g.Several Key)) → Flat (keys_marks x) (flat_order x)
order_written None = record { written = λ rest. refl }
order_written (Some xs) =
    two_marks (w.at (keyword k.Order)) (w.at (keyword k.By))
    (several_written key_marks flat_key key_written xs)

end_written : (b : Bool) → end_marks b ≡ (if b then w.at (sign s.Semicolon) ∷ [] else [])
end_written true = refl
end_written false = refl

abbrev pub flat_query : Query → List Mark
flat_query q =
    w.at (keyword k.Select)
    ∷ (flat_several flat_item q.items ++ w.at (keyword k.From)
    ∷ (flat_several (w.named []) q.tables ++ (flat_where q.condition ++ (flat_groups q.groups
    ++ (flat_order q.keys ++ (if q.semicolon then w.at (sign s.Semicolon) ∷ [] else []))))))

pub query_written : (q : Query) → query_marks q ≡ flat_query q
query_written q =
    let i = several_written item_marks flat_item item_written q.items in
    let t = several_written table_marks (w.named []) (λ n. mark (w.at (g.ident n))) q.tables in
    let c = where_written q.condition in
    let b = groups_written q.groups in
    let o = order_written q.keys in
    grind (arith, end_written, i.written, t.written, c.written, b.written, o.written)
