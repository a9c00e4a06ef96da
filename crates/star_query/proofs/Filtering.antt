-- The parser's functions on conditions go with the machine.
use Rattle.std.{proofs.Common.{◌≡◌, ◌∙◌, ℕ, pos, ◌+◌, ◌<◌, ◌≤◌, [], ◌∷◌, None, Result, Ok, Err, refl, sym, ap, arith}, specs.Prelude.neg_ℤ, specs.declared.alloc.Global.Global, specs.declared.vec.Vec.Vec}
use Rattle.star_query.specs.declared.token.Keyword.TheVariants as k
use Rattle.star_query.specs.declared.token.Sign.TheVariants as s
use Rattle.star_query.{specs.declared.token.Additive.TheVariants.Minus, specs.declared.token.Relation.Relation, specs.declared.fault.ParseError.ParseError, specs.declared.tree.Name.Name, specs.declared.tree.Literal.Literal, specs.declared.tree.Test.Test, specs.declared.tree.Condition.Condition, specs.Symbols.{Symbol, keyword, relation, sign, additive, name, number, text}, specs.Private.Phrases.{unsigned_literal, negative_literal, string_literal, Cond, or_conj, Conj, and_unit, Unary, not_unit, group, pair, compare, between, ident, lit_tree, cond_tree, conj_tree, unit_tree}, specs.Private.Machine.{compared, low, high, UnitHole, first_unit, next_unit, under_not, ConjHole, first_conj, next_conj, CondHole, in_group, lit_depth, unit_depth, conj_depth, cond_depth, lit_wanted, lit_negative, low_had, unit_wanted, unit_named, equal_had, conj_had, cond_had, give_lit, give_unit, behind_relation, next_step, Verdict}, specs.Views.{name_view, literal_view, condition_view}, specs.Private.Reads.{Spot, No, verdict, Takes, NoName, ReadsName, ReadsLit, ReadsNamed, ReadsUnit, ReadsConj, ReadsCond}, proofs.Accepting.{cond_joins, group_closes}, proofs.Descent.{takes, stuck, bad_name, along, same_from, head_no_name}}
use Rattle.star_query.specs.declared.token.Relation.TheVariants as r
use Rattle.star_query.specs.declared.counts.Part.TheVariants as part
use Rattle.star_query.specs.declared.tree.Literal.TheVariants as literals
use Rattle.star_query.specs.declared.tree.Comparison.TheVariants as comparisons
use Rattle.star_query.specs.declared.tree.Test.TheVariants as tests
use Rattle.star_query.specs.declared.tree.Condition.TheVariants as conditions
use Rattle.star_schema.specs.Tables.{Value, Number}
use Rattle.star_query.specs.Tree as tree

-- literals
pub read_negated : (old mid new : Spot) (x : Literal) (n : ℕ)
    → literal_view x ≡ Number (neg_ℤ (pos n)) → Takes old mid (additive Minus) []
    → Takes mid new (number n) [] → ReadsLit old new (Ok x)
read_negated old mid new x n is minus t = (
  negative_literal n,
  sym is,
  λ h deep. takes old mid _ [] (lit_depth h) (lit_wanted h) (lit_negative h) minus deep refl
      ∙ takes mid new _ [] (lit_depth h) (lit_negative h) (give_lit (negative_literal n) h) t deep
      refl,
)

pub read_whole : (old mid new : Spot) (x : Literal) (n : ℕ) → literal_view x ≡ Number (pos n)
    → mid ≡ old → Takes mid new (number n) [] → ReadsLit old new (Ok x)
read_whole old mid new x n is same t = (
  unsigned_literal n,
  sym is,
  λ h deep. ap (λ s. verdict s (lit_wanted h)) (sym same)
      ∙ takes mid new _ [] (lit_depth h) (lit_wanted h) (give_lit (unsigned_literal n) h) t deep
      refl,
)

pub read_quoted : (old mid new : Spot) (v : Vec ℕ Global) → mid ≡ old
    → Takes mid new (text v.items) [] → ReadsLit old new (Ok (literals.Text v))
read_quoted old mid new v same t = (
  string_literal v.items,
  refl,
  λ h deep. ap (λ s. verdict s (lit_wanted h)) (sym same)
      ∙ takes mid new _ [] (lit_depth h) (lit_wanted h) (give_lit (string_literal v.items) h) t
      deep refl,
)

-- comparisons
abbrev compared_with : tree.Comparison tree.Name Value → tree.Condition tree.Test
compared_with c = tree.test (tree.comparison c)

pub read_between : (old a b new : Spot) (i : Name) (l m : Literal) → ReadsLit old a (Ok l)
    → Takes a b (keyword k.And) [] → ReadsLit b new (Ok m)
    → ReadsNamed (λ h. lit_wanted (low h (name_view i))) old new
    (Ok (conditions.Test (tests.Comparison (comparisons.Between i l m))))
read_between old a b new i l m first conj second = (
  between (name_view i) first.0 second.0,
  ap (λ x. compared_with (tree.between (name_view i) x (lit_tree second.0))) first.1
      ∙ ap (λ x. compared_with (tree.between (name_view i) (literal_view l) x)) second.1,
  λ h deep. first.2 (low h (name_view i)) deep
      ∙ takes a b _ [] (unit_depth h) (low_had h (name_view i) first.0)
      (lit_wanted (high h (name_view i) first.0)) conj deep refl
      ∙ second.2 (high h (name_view i) first.0) deep,
)

pub read_compared : (old new : Spot) (i : Name) (q : Relation) (l : Literal)
    → ReadsLit old new (Ok l)
    → ReadsNamed (λ h. lit_wanted (compared h (name_view i) q)) old new
    (Ok (conditions.Test (tests.Comparison (comparisons.Compare i q l))))
read_compared old new i q l lit = (
  compare (name_view i) q lit.0,
  ap (λ x. compared_with (tree.compare (name_view i) q x)) lit.1,
  λ h deep. lit.2 (compared h (name_view i) q) deep,
)

pub read_pair : (old new : Spot) (i j : Name) → Takes old new (ident (name_view j)) []
    → ReadsNamed (λ h. equal_had h (name_view i)) old new (Ok (conditions.Test (tests.Pair i j)))
read_pair old new i j t = (
  pair (name_view i) (name_view j),
  refl,
  λ h deep. takes old new _ [] (unit_depth h) (equal_had h (name_view i))
      (give_unit (pair (name_view i) (name_view j)) h) t deep refl,
)

equal_step : (h : UnitHole) (i : tree.Name) (x : Symbol) → NoName (x ∷ [])
    → next_step (equal_had h i) x ≡ next_step (lit_wanted (compared h i r.Equal)) x
equal_step h i (name t p) none = absurd none
equal_step h i _ none = refl

pub read_equal : (old new : Spot) (i : Name) (answer : Result (Condition Test) ParseError)
    → NoName old.rest → ReadsNamed (λ h. lit_wanted (compared h (name_view i) r.Equal)) old new
    answer → ReadsNamed (λ h. equal_had h (name_view i)) old new answer
read_equal old new i answer none reads = grind (arith, along, same_from, equal_step, head_no_name)

pub read_compare_between :
    (old mid new : Spot) (i : Name) (answer : Result (Condition Test) ParseError)
    → Takes old mid (keyword k.Between) []
    → ReadsNamed (λ h. lit_wanted (low h (name_view i))) mid new answer
    → ReadsNamed (λ h. unit_named h (name_view i)) old new answer
read_compare_between old mid new i answer t reads = grind (arith, along, takes)

pub read_compare_related :
    (old here mid new : Spot) (i : Name) (q : Relation)
    (answer : Result (Condition Test) ParseError) → here ≡ old → Takes here mid (relation q) []
    → ReadsNamed (λ h. behind_relation h (name_view i) q) mid new answer
    → ReadsNamed (λ h. unit_named h (name_view i)) old new answer
read_compare_related old here mid new i q answer same t reads = grind (arith, along, takes)

pub read_comparison : (old mid new : Spot) (i : Name) (answer : Result (Condition Test) ParseError)
    → Takes old mid (ident (name_view i)) (part.Comparison ∷ [])
    → ReadsNamed (λ h. unit_named h (name_view i)) mid new answer
    → ReadsNamed unit_wanted old new answer
read_comparison old mid new i answer t reads = grind (arith, along, takes)

no_unit : (h : UnitHole) (x : Symbol) → NoName (x ∷ []) → (x ≡ keyword k.Not → ⊥)
    → (x ≡ sign s.Open → ⊥) → next_step (unit_wanted h) x ≡ None
no_unit h it a b c = grind arith

pub bad_comparison : (old new : Spot) (e : ParseError) → No (keyword k.Not) old
    → No (sign s.Open) old → ReadsName (part.Comparison ∷ []) old new (Err e)
    → ReadsNamed unit_wanted old new (Err e)
bad_comparison old new e no_not no_open b h deep =
    grind (arith, bad_name, stuck, no_unit, head_no_name)

-- conditions
pub read_not : (old mid new : Spot) (d : ℕ) (x y : Condition Test)
    → Takes old mid (keyword k.Not) (part.Comparison ∷ []) → d < 32 → y ≡ x
    → ReadsUnit (d + 1) mid new (Ok x)
    → (u : Unary) × (unit_tree u ≡ tree.not (condition_view y))
    × ((h : UnitHole) → unit_depth h ≡ d
    → verdict old (unit_wanted h) ≡ verdict new (give_unit u h))
read_not old mid new d x y t deep same reads = (
  not_unit reads.0,
  ap tree.not (reads.1 ∙ ap condition_view (sym same)),
  λ h q. takes old mid _ (part.Comparison ∷ []) (unit_depth h + 1) (unit_wanted h)
      (unit_wanted (under_not h)) t (omega arith) refl
      ∙ reads.2 (under_not h) (ap (λ m. m + 1) q),
)

pub read_group : (old here a b new : Spot) (d : ℕ) (x : Condition Test) → here ≡ old
    → Takes here a (sign s.Open) [] → d < 32 → ReadsCond (d + 1) a b (Ok x)
    → Takes b new (sign s.Close) [] → ReadsUnit d old new (Ok x)
read_group old here a b new d x same opened deep reads closed = (
  group reads.0,
  reads.1,
  λ h q. ap (λ s. verdict s (unit_wanted h)) (sym same)
      ∙ takes here a _ [] (unit_depth h + 1) (unit_wanted h)
      (unit_wanted (first_unit (first_conj (in_group h)))) opened (omega arith) refl
      ∙ reads.2 (in_group h) (ap (λ m. m + 1) q)
      ∙ takes b new _ [] (unit_depth h + 1) (cond_had reads.0 (in_group h))
      (give_unit (group reads.0) h) closed (omega arith) (group_closes reads.0 h),
)

pub named_unit : (old here new : Spot) (d : ℕ) (answer : Result (Condition Test) ParseError)
    → here ≡ old → d ≤ 32 → ReadsNamed unit_wanted here new answer → ReadsUnit d old new answer
named_unit old here new d it same deep reads = grind arith

pub one_more_unit : (before : ConjHole → Verdict) (old mid new : Spot) (d : ℕ)
    (a x z : Condition Test)
    → ((c : Conj) × (conj_tree c ≡ condition_view a)
    × ((h : ConjHole) → conj_depth h ≡ d → before h ≡ verdict old (conj_had c h)))
    → Takes old mid (keyword k.And) [] → d ≤ 32
    → condition_view z ≡ tree.and (condition_view a) (condition_view x) → ReadsUnit d mid new (Ok x)
    → (c : Conj) × (conj_tree c ≡ condition_view z)
    × ((h : ConjHole) → conj_depth h ≡ d → before h ≡ verdict new (conj_had c h))
one_more_unit before old mid new d a x z so_far t deep ez reads = (
  and_unit so_far.0 reads.0,
  ap (λ l. tree.and l (unit_tree reads.0)) so_far.1 ∙ ap (tree.and (condition_view a)) reads.1
      ∙ sym ez,
  λ h q. so_far.2 h q
      ∙ takes old mid _ [] (conj_depth h) (conj_had so_far.0 h)
      (unit_wanted (next_unit so_far.0 h)) t (omega arith) refl
      ∙ reads.2 (next_unit so_far.0 h) q,
)

pub one_more_conj : (before : CondHole → Verdict) (old mid new : Spot) (d : ℕ)
    (a x z : Condition Test)
    → ((p : Cond) × (cond_tree p ≡ condition_view a)
    × ((h : CondHole) → cond_depth h ≡ d → before h ≡ verdict old (cond_had p h)))
    → Takes old mid (keyword k.Or) [] → d ≤ 32
    → condition_view z ≡ tree.or (condition_view a) (condition_view x) → ReadsConj d mid new (Ok x)
    → (p : Cond) × (cond_tree p ≡ condition_view z)
    × ((h : CondHole) → cond_depth h ≡ d → before h ≡ verdict new (cond_had p h))
one_more_conj before old mid new d a x z so_far t deep ez reads = (
  or_conj so_far.0 reads.0,
  ap (λ l. tree.or l (conj_tree reads.0)) so_far.1 ∙ ap (tree.or (condition_view a)) reads.1
      ∙ sym ez,
  λ h q. so_far.2 h q
      ∙ takes old mid _ [] (cond_depth h) (cond_had so_far.0 h)
      (unit_wanted (first_unit (next_conj so_far.0 h))) t (omega arith) (cond_joins so_far.0 h)
      ∙ reads.2 (next_conj so_far.0 h) q,
)
