-- What a text means is spelled as the grammar wants.
use Rattle.std.{proofs.Common.{◌≡◌, ◌∙◌, ◌^◌, ℕ, zero, suc, true, Bool, List, [], ◌∷◌, ◌++◌, length, Option, refl, subst, if◌then◌else◌, arith}, specs.Prelude.{nat_lt, neg_ℤ, pos}, specs.List.{AllByRecursion, list_all}, proofs.lemmas.Bool.{and_from, and_parts, le-leb}, proofs.lemmas.List.Folds.list_all-append}
use Rattle.star_query.{specs.declared.counts.Part.Part, specs.declared.token.Additive.TheVariants.{Plus, Minus}, specs.Symbols.{additive, keyword, sign, name}, specs.Tokens.{begins_with_letter, is_word_byte}, specs.Derives.{IsShortName, symbols_at, Means}, specs.Tree.{Name, Expression, Condition, Test, Measure, Grouping, SortKey, Tree}, specs.Grammar.{Mark, Several, IsExpr, IsTerm, IsFactor, IsLiteral, IsCond, IsConj, IsUnit, IsMeasure, IsItem, IsKey, IsName, IsWhere, IsGrouping, IsOrder, IsQuery, nested, bracketed}, specs.Spelled.{is_name, has_few_digits, value_is_spelled, expression_is_spelled, condition_is_spelled, where_is_spelled, measure_is_spelled, item_is_spelled, IsSpelledQuery}, proofs.Spelling.{token_is_spelled, tokens_spelled}}
use Rattle.star_query.specs.declared.token.Keyword.TheVariants as k
use Rattle.star_query.specs.declared.token.Sign.TheVariants as s
use Rattle.star_schema.specs.Tables.{Value}
use Rattle.star_query.specs.Grammar as w

abbrev IsGood : Mark → Type 0
IsGood m = (token_is_spelled m.symbol ≡ true) × IsShortName m.symbol

abbrev Good : List Mark → Type 0
Good ms = AllByRecursion IsGood ms

each_good : (ms : List Mark) → list_all token_is_spelled (symbols_at ms) ≡ true
    → AllByRecursion (λ m. IsShortName m.symbol) ms → Good ms
each_good [] spelled short = tt
each_good (m ∷ ms) spelled short =
    let both = and_parts (token_is_spelled m.symbol) (list_all token_is_spelled (symbols_at ms))
    spelled in ((both.0, short.0), each_good ms both.1 short.1)

-- ---- marks put together

good_parts : (ms ns : List Mark) → Good (ms ++ ns) → Good ms × Good ns
good_parts [] ns all = (tt, all)
good_parts (m ∷ ms) ns all = let rest = good_parts ms ns all.1 in ((all.0, rest.0), rest.1)

good_under : (ms : List Mark) → Good (nested ms) → Good ms
good_under [] all = tt
good_under (m ∷ ms) all = (all.0, good_under ms all.1)

good_inside : (ms : List Mark) → Good (bracketed ms) → Good ms
good_inside ms all = (good_parts ms (w.at (sign s.Close) ∷ []) all.1).0

-- ---- names, numbers and literals

name_good : (n : Name) → IsGood (w.at (name n.text n.offset)) → is_name n.text ≡ true
unfolding is_name
name_good n good =
    let both = and_parts (begins_with_letter n.text) (list_all is_word_byte n.text) good.0 in
    and_from _ _ both.0 (and_from _ _ both.1 (le-leb (length n.text) 64 good.1))

positive_good : (n : ℕ) → nat_lt n (10 ^ 18) ≡ true → has_few_digits (pos n) ≡ true
unfolding has_few_digits
positive_good n e = e

negative_good : (n : ℕ) → nat_lt n (10 ^ 18) ≡ true → has_few_digits (neg_ℤ (pos n)) ≡ true
unfolding has_few_digits
negative_good zero e = e
negative_good (suc n) e = e

lit_good : {ms : List Mark} {l : Value} → IsLiteral ms l → Good ms → value_is_spelled l ≡ true
lit_good (w.positive {n}) all = positive_good n all.0.0
lit_good (w.negative {n}) all = negative_good n all.1.0.0
lit_good w.quoted all = all.0.0

-- ---- expressions and conditions

mutual
  expr_good : {ms : List Mark} {e : Expression Name} → IsExpr ms e → Good ms
      → expression_is_spelled e ≡ true
  expr_good (w.term t) all = term_good t all
  expr_good (w.plus {ms} {ns} a b) all =
      let parts = good_parts ms (w.at (additive Plus) ∷ ns) all in
      and_from _ _ (expr_good a parts.0) (term_good b parts.1.1)
  expr_good (w.minus {ms} {ns} a b) all =
      let parts = good_parts ms (w.at (additive Minus) ∷ ns) all in
      and_from _ _ (expr_good a parts.0) (term_good b parts.1.1)

  term_good : {ms : List Mark} {e : Expression Name} → IsTerm ms e → Good ms
      → expression_is_spelled e ≡ true
  term_good (w.factor f) all = factor_good f all
  term_good (w.times {ms} {ns} a b) all =
      let parts = good_parts ms (w.at (sign s.Star) ∷ ns) all in
      and_from _ _ (term_good a parts.0) (factor_good b parts.1.1)

  factor_good : {ms : List Mark} {e : Expression Name} → IsFactor ms e → Good ms
      → expression_is_spelled e ≡ true
  factor_good (w.column {n}) all = name_good n all.0
  factor_good (w.positive {n}) all = positive_good n all.0.0
  factor_good (w.negative {n}) all = negative_good n all.1.0.0
  factor_good (w.parens {ms} e) all =
      expr_good e (good_inside ms (good_under (bracketed ms) all))

mutual
  cond_good : {ms : List Mark} {c : Condition Test} → IsCond ms c → Good ms
      → condition_is_spelled c ≡ true
  cond_good (w.conj c) all = conj_good c all
  cond_good (w.either {ms} {ns} a b) all =
      let parts = good_parts ms (w.at (keyword k.Or) ∷ ns) all in
      and_from _ _ (cond_good a parts.0) (conj_good b parts.1.1)

  conj_good : {ms : List Mark} {c : Condition Test} → IsConj ms c → Good ms
      → condition_is_spelled c ≡ true
  conj_good (w.unit u) all = unit_good u all
  conj_good (w.both {ms} {ns} a b) all =
      let parts = good_parts ms (w.at (keyword k.And) ∷ ns) all in
      and_from _ _ (conj_good a parts.0) (unit_good b parts.1.1)

  unit_good : {ms : List Mark} {c : Condition Test} → IsUnit ms c → Good ms
      → condition_is_spelled c ≡ true
  unit_good (w.negated {ms} u) all = unit_good u (good_under ms all.1)
  unit_good (w.parens {ms} c) all =
      cond_good c (good_inside ms (good_under (bracketed ms) all))
  unit_good (w.pair {a} {b}) all =
      and_from _ _ (name_good a all.0) (name_good b all.1.1.0)
  unit_good (w.compare {ms} {a} l) all = and_from _ _ (name_good a all.0) (lit_good l all.1.1)
  unit_good (w.between {ms} {ns} {a} l h) all =
      let parts = good_parts ms (w.at (keyword k.And) ∷ ns) all.1.1 in
      and_from _ _ (name_good a all.0)
      (and_from _ _ (lit_good l parts.0) (lit_good h parts.1.1))

-- ---- lists

abbrev Spells : {A : Type 0} → (List Mark → A → Type 0) → (A → Bool) → Type 0
Spells {A} Is test = (ms : List Mark) (x : A) → Is ms x → Good ms → test x ≡ true

several_good : {A : Type 0} (Is : List Mark → A → Type 0) (test : A → Bool) → Spells Is test
    → {ms : List Mark} {xs : List A} → Several Is ms xs → Good ms → list_all test xs ≡ true
several_good Is test spells (w.one {ms} {x} is) all = and_from _ _ (spells ms x is all) refl
several_good Is test spells (w.more {ms} {ns} {xs} {x} before is) all =
    let parts = good_parts ms (w.at (sign s.Comma) ∷ ns) all in
    list_all-append test xs (x ∷ [])
    ∙ and_from _ _ (several_good Is test spells before parts.0)
    (and_from _ _ (spells ns x is parts.1.1) refl)

measure_good : {offset : ℕ} {ms : List Mark} {m : Measure Name} → IsMeasure offset ms m → Good ms
    → measure_is_spelled m ≡ true
measure_good (w.folded {f} {ms} e) all = expr_good e (good_inside ms all.1)
measure_good w.counting all = refl

item_good : Spells IsItem item_is_spelled
item_good _ _ (w.plain {n}) all = name_good n all.0
item_good _ _ (w.unnamed a) all = and_from _ _ (measure_good a all) refl
item_good _ _ (w.renamed {offset} {ms} {m} {n} a) all =
    let parts = good_parts ms (w.at (keyword k.As) ∷ w.named [] n) all in
    and_from _ _ (measure_good a parts.0) (name_good n parts.1.1.0)

column_good : (ps : List Part) → Spells (IsName ps) (λ n. is_name n.text)
column_good ps ms n same all = name_good n (subst Good same all).0

key_good : Spells IsKey (λ k. is_name k.name.text)
key_good _ _ (w.unmarked {n}) all = name_good n all.0
key_good _ _ (w.ascending {n}) all = name_good n all.0
key_good _ _ (w.descending {n}) all = name_good n all.0

-- ---- a query

where_good : {ms : List Mark} {c : Option (Condition Test)} → IsWhere ms c → Good ms
    → where_is_spelled c ≡ true
where_good w.all_rows all = refl
where_good (w.filtered c) all = cond_good c all.1

groups_good : {ms : List Mark} {g : Grouping} → IsGrouping ms g → Good ms
    → list_all (λ n. is_name n.text) g.columns ≡ true
groups_good w.ungrouped all = refl
groups_good (w.grouped is) all = several_good (IsName _) _ (column_good _) is all.1.1
groups_good (w.cube {ms} is) all =
    several_good (IsName _) _ (column_good _) is (good_inside ms all.1.1.1)
groups_good (w.rollup {ms} is) all =
    several_good (IsName _) _ (column_good _) is (good_inside ms all.1.1.1)

keys_good : {ms : List Mark} {keys : List SortKey} → IsOrder ms keys → Good ms
    → list_all (λ k. is_name k.name.text) keys ≡ true
keys_good w.unsorted all = refl
keys_good (w.sorted is) all = several_good IsKey (λ k. is_name k.name.text) key_good is all.1.1

query_good : {ms : List Mark} (t : Tree) → IsQuery ms t → Good ms → IsSpelledQuery t
query_good t (w.query {items} {tables} {condition} {groups} {keys} semicolon is ts c g ks) all =
    let end = if semicolon then w.at (sign s.Semicolon) ∷ [] else [] in
    let one = good_parts items
    (w.at (keyword k.From) ∷ (tables ++ (condition ++ (groups ++ (keys ++ end))))) all.1 in
    let two = good_parts tables (condition ++ (groups ++ (keys ++ end))) one.1.1 in
    let three = good_parts condition (groups ++ (keys ++ end)) two.1 in
    let four = good_parts groups (keys ++ end) three.1 in
    record {
      items = several_good IsItem item_is_spelled item_good is one.0;
      tables = several_good (IsName []) (λ n. is_name n.text) (column_good []) ts two.0;
      condition = where_good c three.0;
      columns = groups_good g four.0;
      keys = keys_good ks (good_parts keys end four.1).0;
    }

-- what a text means is well spelled
pub meant_spelled : (bytes : List ℕ) (t : Tree) → Means bytes t → IsSpelledQuery t
meant_spelled bytes t m = grind (arith, query_good, each_good, token_is_spelled, tokens_spelled)
