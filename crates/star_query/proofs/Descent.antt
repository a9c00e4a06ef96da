-- The parser's functions go with the machine.
use Rattle.std.{proofs.Common.{◌≡◌, ◌∙◌, ℕ, pos, ◌+◌, ◌<◌, ◌≤◌, Bool, true, false, List, [], ◌∷◌, Some, None, Result, Ok, Err, refl, sym, ap, subst, arith}, specs.Prelude.{nat_lt, neg_ℤ}, specs.Result.IsErrAnd}
use Rattle.star_query.specs.declared.token.Sign.TheVariants as s
use Rattle.star_query.{specs.declared.token.Digits.Digits, specs.declared.token.Additive.Additive, specs.declared.token.Additive.TheVariants.Minus, specs.declared.counts.Part.Part, specs.declared.fault.Fault.Fault, specs.declared.fault.Fault.TheVariants.{Unexpected, TooDeep, TooMany}, specs.declared.fault.ParseError.ParseError, specs.declared.tree.Name.Name, specs.declared.tree.Expression.Expression, specs.Symbols.{Symbol, sign, additive, name, number}, specs.Views.{name_view, expression_view}, specs.Private.Lists.bad_along, specs.Private.Phrases.{Expr, plus_or_minus, Term, times, column, constant, negative, parens, first, ident, sum_or_difference, expr_tree, term_tree, factor_tree}, specs.Private.Machine.{ExprHole, in_parens, TermHole, first_term, next_term, FactorHole, first_factor, next_factor, expr_depth, term_depth, factor_depth, ParserState, factor_wanted, factor_negative, term_had, expr_had, give_factor, to, next_step, query_at_end, Verdict, Bad, checked, verdict_after, ends, run}, specs.Private.Reads.{Spot, head_of, No, verdict, EndsBad, Takes, NoName, NoNumber, IsName, IsNumber, IsBeyond, ReadsToken, ReadsName, ReadsNumber, Nests, ReadsPhrase, ReadsOperand, ReadsFactor, ReadsTerm, ReadsExpr}, proofs.Counting.not_below, proofs.Accepting.{expr_joins, parens_close}, proofs.Tokens.no_name_there}
use Rattle.star_query.specs.declared.counts.Part.TheVariants as part
use Rattle.star_query.specs.declared.fault.ParseError.TheVariants as errors
use Rattle.star_query.specs.declared.tree.Expression.TheVariants as expressions
use Rattle.star_query.specs.Tree as tree

-- past a symbol, within the limits
pub takes : (old new : Spot) (x : Symbol) (ps : List Part) (d : ℕ) (from next : ParserState)
    → Takes old new x ps → d ≤ 32 → next_step from x ≡ to next (first ps d x)
    → verdict old from ≡ verdict new next
takes old new x ps d from next t deep e = grind (arith, not_below)

-- where no step goes on, and no query ends
pub stuck : (old : Spot) (from : ParserState) → (old.rest ≡ [] → query_at_end from ≡ None)
    → ((x : Symbol) → head_of old.rest ≡ Some x → next_step from x ≡ None)
    → verdict old from ≡ Bad Unexpected old.rest
stuck old from ends_not steps_not = by_rest old.rest ends_not steps_not
  where
    by_rest : (rest : List Symbol) → (rest ≡ [] → query_at_end from ≡ None)
        → ((x : Symbol) → head_of rest ≡ Some x → next_step from x ≡ None)
        → run rest from old.counts ≡ Bad Unexpected rest
    by_rest [] e f = ap ends (e refl)
    by_rest (x ∷ xs) e f = ap (λ o. verdict_after o old.counts (x ∷ xs) (run xs)) (f x refl)

head_is : (xs : List Symbol) (x : Symbol) → head_of xs ≡ Some x
    → (rest : List Symbol) × (xs ≡ x ∷ rest)
head_is [] x e = cc
head_is (y ∷ ys) x e = (ys, (let same : y ≡ x = cc in ap (λ z. z ∷ ys) same))

-- too many at the next symbol
pub too_many : (old : Spot) (ps : List Part) (d : ℕ) (from : ParserState)
    → IsBeyond ps old.counts old.rest → d ≤ 32
    → ((x : Symbol) → head_of old.rest ≡ Some x
    → (next : ParserState) × (next_step from x ≡ to next (first ps d x)))
    → verdict old from ≡ Bad TooMany old.rest
too_many old ps d from beyond deep goes = by_rest old.rest beyond goes
  where
    by_rest : (rest : List Symbol) → IsBeyond ps old.counts rest
        → ((x : Symbol) → head_of rest ≡ Some x
        → (next : ParserState) × (next_step from x ≡ to next (first ps d x)))
        → run rest from old.counts ≡ Bad TooMany rest
    by_rest [] b f = absurd b
    by_rest (x ∷ xs) b f =
        let e = f x refl in
        let shallow : nat_lt 32 d ≡ false = not_below 32 d deep in
        let now : checked old.counts (first ps d x) (x ∷ xs) (run xs e.0) ≡ Bad TooMany (x ∷ xs) =
        rw (shallow, b) refl in
        ap (λ o. verdict_after o old.counts (x ∷ xs) (run xs)) e.1 ∙ now

-- an end that is reached later
pub bad_here : (f : Fault) (old new : Spot) (v : Verdict) → new.rest ≡ old.rest → v ≡ Bad f old.rest
    → EndsBad (errors.Fault f) new v
bad_here f old new v same b = b ∙ ap (Bad f) (sym same)

pub head_no_name : (rest : List Symbol) (x : Symbol) → head_of rest ≡ Some x → NoName rest
    → NoName (x ∷ [])
head_no_name rest x e none = grind (arith, head_is)

pub head_no_number : (rest : List Symbol) (x : Symbol) → head_of rest ≡ Some x → NoNumber rest
    → NoNumber (x ∷ [])
head_no_number rest x e none = grind (arith, head_is)

-- a token of a kind that can't be read
bad_token : {A : Type 0} (symbol : A → Symbol) (NoMemory : Type 0) (Is IsNo : List Symbol → Type 0)
    (ps : List Part) (d : ℕ) (from : ParserState) (old new : Spot) (e : ParseError) → d ≤ 32
    → ((x : Symbol) (rest : List Symbol) → Is (x ∷ rest)
    → (next : ParserState) × (next_step from x ≡ to next (first ps d x)))
    → (IsNo old.rest → verdict old from ≡ Bad Unexpected old.rest)
    → ReadsToken symbol NoMemory Is IsNo ps old new (Err e) → EndsBad e new (verdict old from)
bad_token symbol it it2 it3 ps d from old new it4 deep goes others b =
    grind (arith, bad_here, too_many, head_is)

pub bad_name : (ps : List Part) (d : ℕ) (from : ParserState) (old new : Spot) (e : ParseError)
    → d ≤ 32 → ((t : List ℕ) (p : ℕ)
    → (next : ParserState) × (next_step from (name t p) ≡ to next (first ps d (name t p))))
    → (NoName old.rest → verdict old from ≡ Bad Unexpected old.rest) → ReadsName ps old new (Err e)
    → EndsBad e new (verdict old from)
bad_name ps d from old new e deep names others b =
    bad_token (λ (n : Name). ident (name_view n)) (Unit {0}) IsName NoName ps d from old new e deep
    goes others b
  where
    goes : (x : Symbol) (rest : List Symbol) → IsName (x ∷ rest)
        → (next : ParserState) × (next_step from x ≡ to next (first ps d x))
    goes (name t p) rest is = names t p
    goes _ rest is = absurd is

pub bad_number : (ps : List Part) (d : ℕ) (from : ParserState) (old new : Spot) (e : ParseError)
    → d ≤ 32 → ((n : ℕ) → (next : ParserState)
    × (next_step from (number n) ≡ to next (first ps d (number n))))
    → (NoNumber old.rest → verdict old from ≡ Bad Unexpected old.rest)
    → ReadsNumber ps old new (Err e) → EndsBad e new (verdict old from)
bad_number ps d from old new e deep numbers others b =
    bad_token (λ (digits : Digits). number digits.value) ⊥ IsNumber NoNumber ps d from old new e
    deep goes others b
  where
    goes : (x : Symbol) (rest : List Symbol) → IsNumber (x ∷ rest)
        → (next : ParserState) × (next_step from x ≡ to next (first ps d x))
    goes (number n) rest is = numbers n
    goes _ rest is = absurd is

-- what holds of an error holds where a `?` returns it
pub failed : {A : Type 0} (P : Result A ParseError → Type 0) (r : Result A ParseError)
    (e : ParseError) → IsErrAnd r (λ y. y ≡ e) → P (Err e) → P r
failed P (Ok x) e is bad = absurd is
failed P (Err y) e is bad = subst (λ z. P (Err z)) (sym is) bad

-- operands
pub read_column : (old new : Spot) (n : Name)
    → Takes old new (ident (name_view n)) (part.Operand ∷ [])
    → ReadsOperand old new (Ok (expressions.Column n))
read_column old new n t = (
  column (name_view n),
  refl,
  λ h deep. takes old new _ (part.Operand ∷ []) (factor_depth h) (factor_wanted h)
      (give_factor (column (name_view n)) h) t deep refl,
)

pub read_constant : (old mid new : Spot) (x : Expression Name) (n : ℕ)
    → expression_view x ≡ tree.constant (pos n) → mid ≡ old
    → Takes mid new (number n) (part.Operand ∷ []) → ReadsOperand old new (Ok x)
read_constant old mid new x n is same t = (
  constant n,
  sym is,
  λ h deep.
      ap (λ s. verdict s (factor_wanted h)) (sym same)
      ∙ takes mid new _ (part.Operand ∷ []) (factor_depth h) (factor_wanted h)
      (give_factor (constant n) h) t deep refl,
)

pub read_negative : (old mid new : Spot) (x : Expression Name) (n : ℕ)
    → expression_view x ≡ tree.constant (neg_ℤ (pos n)) → Takes old mid (additive Minus) []
    → Takes mid new (number n) (part.Operand ∷ []) → ReadsOperand old new (Ok x)
read_negative old mid new x n is minus t = (
  negative n,
  sym is,
  λ h deep.
      takes old mid _ [] (factor_depth h) (factor_wanted h) (factor_negative h) minus deep refl
      ∙ takes mid new _ (part.Operand ∷ []) (factor_depth h) (factor_negative h)
      (give_factor (negative n) h) t deep refl,
)

only_number : (h : FactorHole) (x : Symbol) → NoNumber (x ∷ [])
    → next_step (factor_negative h) x ≡ None
only_number h (number n) none = absurd none
only_number h _ none = refl

no_factor : (h : FactorHole) (x : Symbol) → NoName (x ∷ []) → NoNumber (x ∷ [])
    → (x ≡ additive Minus → ⊥) → (x ≡ sign s.Open → ⊥) → next_step (factor_wanted h) x ≡ None
no_factor h it a b c d = grind arith

pub bad_column : (old new : Spot) (e : ParseError) → IsName old.rest
    → ReadsName (part.Operand ∷ []) old new (Err e) → ReadsOperand old new (Err e)
bad_column old new e is b h deep = grind (arith, bad_name, no_name_there)

pub bad_negative : (old mid new : Spot) (e : ParseError) → Takes old mid (additive Minus) []
    → ReadsNumber (part.Operand ∷ []) mid new (Err e) → ReadsOperand old new (Err e)
bad_negative old mid new e t b h deep =
    grind (arith, takes, bad_number, stuck, only_number, head_no_number)

pub bad_constant : (old mid new : Spot) (e : ParseError) → mid ≡ old → NoName old.rest
    → No (additive Minus) old → No (sign s.Open) old
    → ReadsNumber (part.Operand ∷ []) mid new (Err e) → ReadsOperand old new (Err e)
bad_constant old mid new e here no_name no_minus no_open b h deep =
    grind (arith, bad_number, stuck, no_factor, head_no_name, head_no_number)

-- expressions
pub read_parens : (old a b new : Spot) (d : ℕ) (x : Expression Name) → Takes old a (sign s.Open) []
    → d < 32 → ReadsExpr (d + 1) a b (Ok x) → Takes b new (sign s.Close) []
    → ReadsFactor d old new (Ok x)
read_parens old a b new d x opened deep r closed = (
  parens r.0,
  r.1,
  λ h q.
      takes old a _ [] (factor_depth h + 1) (factor_wanted h)
      (factor_wanted (first_factor (first_term (in_parens h)))) opened (omega arith) refl
      ∙ r.2 (in_parens h) (ap (λ m. m + 1) q)
      ∙ takes b new _ [] (factor_depth h + 1) (expr_had r.0 (in_parens h))
      (give_factor (parens r.0) h) closed (omega arith) (parens_close r.0 h),
)

pub one_more_factor : (before : TermHole → Verdict) (old mid new : Spot) (d : ℕ)
    (a b x y : Expression Name)
    → ((t : Term) × (term_tree t ≡ expression_view a)
    × ((h : TermHole) → term_depth h ≡ d → before h ≡ verdict old (term_had t h)))
    → Takes old mid (sign s.Star) [] → d ≤ 32 → b ≡ a → y ≡ x → ReadsFactor d mid new (Ok x)
    → (t : Term) × (term_tree t ≡ tree.mul (expression_view b) (expression_view y))
    × ((h : TermHole) → term_depth h ≡ d → before h ≡ verdict new (term_had t h))
one_more_factor before old mid new d a b x y so_far star deep eb ey r = (
  times so_far.0 r.0,
  ap (λ z. tree.mul z (factor_tree r.0))
      (so_far.1 ∙ ap expression_view (sym eb))
      ∙ ap (tree.mul (expression_view b)) (r.1 ∙ ap expression_view (sym ey)),
  λ h q. so_far.2 h q ∙ takes old mid _ [] (term_depth h) (term_had so_far.0 h)
      (factor_wanted (next_factor so_far.0 h)) star (omega arith) refl
      ∙ r.2 (next_factor so_far.0 h) q,
)

pub one_more_term : (before : ExprHole → Verdict) (old mid new : Spot) (d : ℕ)
    (a x z : Expression Name) (q : Additive)
    → ((e : Expr) × (expr_tree e ≡ expression_view a)
    × ((h : ExprHole) → expr_depth h ≡ d → before h ≡ verdict old (expr_had e h)))
    → Takes old mid (additive q) [] → d ≤ 32
    → expression_view z ≡ sum_or_difference q (expression_view a) (expression_view x)
    → ReadsTerm d mid new (Ok x)
    → (e : Expr) × (expr_tree e ≡ expression_view z)
    × ((h : ExprHole) → expr_depth h ≡ d → before h ≡ verdict new (expr_had e h))
one_more_term before old mid new d a x z q so_far sign_taken deep ez r = (
  plus_or_minus so_far.0 q r.0,
  ap (λ u. sum_or_difference q u (term_tree r.0)) so_far.1
      ∙ ap (sum_or_difference q (expression_view a)) r.1 ∙ sym ez,
  λ h e. so_far.2 h e ∙ takes old mid _ [] (expr_depth h) (expr_had so_far.0 h)
      (factor_wanted (first_factor (next_term so_far.0 q h))) sign_taken (omega arith)
      (expr_joins so_far.0 h q) ∙ r.2 (next_term so_far.0 q h) e,
)

-- whether a nesting was opened
pub opened : (x : Symbol) (ps : List Part) (d : ℕ) (old new : Spot) (b : Bool) → b ≡ true
    → Nests x ps d old new (Ok b) → (d < 32) × Takes old new x ps
opened x ps d old new true e n = n
opened x ps d old new false e n = cc

pub not_opened : (x : Symbol) (ps : List Part) (d : ℕ) (old new : Spot) (b : Bool) → b ≡ false
    → Nests x ps d old new (Ok b) → No x old × (new ≡ old)
not_opened x ps d old new true e n = cc
not_opened x ps d old new false e n = n

-- the same from a state that reads the next symbol alike
pub same_from : (old : Spot) (from other : ParserState) → query_at_end from ≡ query_at_end other
    → ((x : Symbol) → head_of old.rest ≡ Some x → next_step from x ≡ next_step other x)
    → verdict old from ≡ verdict old other
same_from old from other ends_alike steps_alike = by_rest old.rest steps_alike
  where
    by_rest : (rest : List Symbol)
        → ((x : Symbol) → head_of rest ≡ Some x → next_step from x ≡ next_step other x)
        → run rest from old.counts ≡ run rest other old.counts
    by_rest [] f = ap ends ends_alike
    by_rest (x ∷ xs) f = ap (λ o. verdict_after o old.counts (x ∷ xs) (run xs)) (f x refl)

-- the same from a spot and a state before
pub along : {A T P H : Type 0} (view : A → T) (tree : P → T) (IsHole : H → Type 0)
    (wanted other : H → ParserState) (given : P → H → ParserState) (old mid new : Spot)
    (r : Result A ParseError)
    → ((h : H) → IsHole h → verdict old (wanted h) ≡ verdict mid (other h))
    → ReadsPhrase view tree IsHole other given mid new r
    → ReadsPhrase view tree IsHole wanted given old new r
along view tree it wanted other given old mid new it2 f it3 = grind arith
