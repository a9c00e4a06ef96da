-- The parser's functions, by the machine.
use Rattle.std.specs.{Prelude.{◌≡◌, ℕ, ◌<◌, ◌≤◌, Bool, true, false, ◌||◌, List, [], ◌∷◌, map, Option, Some, None, Result, Ok, Err}, declared.alloc.Global.Global, declared.vec.Vec.Vec}
use Rattle.star_query.specs.{declared.token.Token.Token, declared.token.Kind.Kind, declared.token.Digits.Digits, declared.token.Additive.Additive, declared.counts.Part.Part, declared.counts.Counts.Counts, declared.fault.Fault.TheVariants.{Unexpected, TooDeep, TooMany}, declared.fault.ParseError.ParseError, declared.parser.Parser.Parser, declared.tree.Name.Name, declared.tree.Expression.Expression, declared.tree.Literal.Literal, declared.tree.Test.Test, declared.tree.Condition.Condition, Symbols.{Symbol, keyword, sign, additive, name, number, text}, Private.Lexed.symbol_of, Maxima.{limit, most_nestings}, Views.{name_view, expression_view, literal_view, condition_view}, Private.Phrases.{ident, factor_tree, term_tree, expr_tree, lit_tree, unit_tree, conj_tree, cond_tree}, Private.Machine.{UnitHole, factor_depth, term_depth, expr_depth, lit_depth, unit_depth, conj_depth, cond_depth, first_factor, first_term, first_unit, first_conj, ParserState, factor_wanted, give_factor, term_had, expr_had, lit_wanted, give_lit, unit_wanted, give_unit, conj_had, cond_had, Verdict, Bad, count_of_part, bump, plus, is_over, is_long, run}}
use Rattle.star_query.specs.declared.token.Keyword.TheVariants as k
use Rattle.star_query.specs.declared.token.Sign.TheVariants as s
use Rattle.star_query.specs.declared.fault.ParseError.TheVariants as errors

-- the parser's position: the remaining tokens, and how much was counted
pub record Spot : Type 0 where
  pub rest : List Symbol
  pub counts : Counts

abbrev pub spot_of : Parser → Spot
spot_of parser = record {
  rest = map (λ t. symbol_of t.kind t.offset) parser.rest.now;
  counts =
      parser.counts;
}

abbrev pub head_of : List Symbol → Option Symbol
head_of [] = None
head_of (x ∷ xs) = Some x

-- what kind of token is next
abbrev pub next_kind : List Token → Option Kind
next_kind [] = None
next_kind (t ∷ ts) = Some t.kind

-- this symbol isn't next
abbrev pub No : Symbol → Spot → Type 0
No x spot = head_of spot.rest ≡ Some x → ⊥

-- the machine's verdict from a spot
abbrev pub verdict : Spot → ParserState → Verdict
verdict spot from = run spot.rest from spot.counts

-- the machine ends with this fault here
abbrev pub EndsBad : ParseError → Spot → Verdict → Type 0
EndsBad errors.OutOfMemory new v = Unit {0}
EndsBad (errors.Fault f) new v = v ≡ Bad f new.rest

-- a symbol is passed at which these parts begin, within the limits
pub record Takes (old new : Spot) (x : Symbol) (ps : List Part) : Type 0 where
  pub next : old.rest ≡ x ∷ new.rest
  pub counts : new.counts ≡ plus old.counts ps
  pub few : is_over (plus old.counts ps) ps ≡ false
  pub short : is_long x ≡ false

-- a symbol that has to be next
abbrev pub Expects : {A : Type 0} → Symbol → Spot → Spot → Result A ParseError → Type 0
Expects x old new (Ok u) = Takes old new x []
Expects x old new (Err e) = (e ≡ errors.Fault Unexpected) × No x old × (new ≡ old)

-- one more of a part
abbrev pub Counted : {A : Type 0} → Part → Spot → Spot → Result A ParseError → Type 0
Counted p old new (Ok u) = (count_of_part old.counts p < limit p)
    × (new ≡ record old { counts = bump p old.counts })
Counted p old new (Err e) = (e ≡ errors.Fault TooMany) × (limit p ≤ count_of_part old.counts p)
    × (new ≡ old)

-- no name is next
abbrev pub NoName : List Symbol → Type 0
NoName (name t p ∷ xs) = ⊥
NoName xs = Unit {0}

abbrev pub IsName : List Symbol → Type 0
IsName (name t p ∷ xs) = Unit {0}
IsName xs = ⊥

abbrev pub IsNumber : List Symbol → Type 0
IsNumber (number n ∷ xs) = Unit {0}
IsNumber xs = ⊥

-- no number is next
abbrev pub NoNumber : List Symbol → Type 0
NoNumber (number n ∷ xs) = ⊥
NoNumber xs = Unit {0}

-- no text is next
abbrev pub NoText : List Symbol → Type 0
NoText (text t ∷ xs) = ⊥
NoText xs = Unit {0}

-- the next symbol, at which these parts begin, is beyond a limit
abbrev pub IsBeyond : List Part → Counts → List Symbol → Type 0
IsBeyond ps n [] = ⊥
IsBeyond ps n (x ∷ xs) = is_over (plus n ps) ps || is_long x ≡ true

-- a token of a kind that has to be next
abbrev pub ReadsToken : {A : Type 0} → (A → Symbol) → (NoMemory : Type 0)
    → (Is IsNo : List Symbol → Type 0) → List Part → Spot → Spot → Result A ParseError → Type 0
ReadsToken symbol NoMemory Is IsNo ps old new (Ok x) = Takes old new (symbol x) ps
ReadsToken symbol NoMemory Is IsNo ps old new (Err errors.OutOfMemory) = NoMemory
ReadsToken symbol NoMemory Is IsNo ps old new (Err (errors.Fault Unexpected)) = IsNo old.rest
    × (new ≡ old)
ReadsToken symbol NoMemory Is IsNo ps old new (Err (errors.Fault TooDeep)) = ⊥
ReadsToken symbol NoMemory Is IsNo ps old new (Err (errors.Fault TooMany)) =
    IsBeyond ps old.counts old.rest × (new.rest ≡ old.rest) × Is old.rest

abbrev pub ReadsName : List Part → Spot → Spot → Result Name ParseError → Type 0
ReadsName = ReadsToken (λ n. ident (name_view n)) (Unit {0}) IsName NoName

abbrev pub ReadsNumber : List Part → Spot → Spot → Result Digits ParseError → Type 0
ReadsNumber = ReadsToken (λ digits. number digits.value) ⊥ IsNumber NoNumber

abbrev pub ReadsText : Spot → Spot → Result (Vec ℕ Global) ParseError → Type 0
ReadsText old new (Ok v) = Takes old new (text v.items) []
ReadsText old new (Err errors.OutOfMemory) = Unit {0}
ReadsText old new (Err (errors.Fault Unexpected)) = NoText old.rest × (new ≡ old)
ReadsText old new (Err (errors.Fault f)) = ⊥

-- a nesting, if it is opened by this symbol, at which these parts begin
abbrev pub Nests : Symbol → List Part → ℕ → Spot → Spot → Result Bool ParseError → Type 0
Nests x ps d old new (Ok true) = (d < most_nestings) × Takes old new x ps
Nests x ps d old new (Ok false) = No x old × (new ≡ old)
Nests x ps d old new (Err errors.OutOfMemory) = ⊥
Nests x ps d old new (Err (errors.Fault Unexpected)) = ⊥
Nests x ps d old new (Err (errors.Fault TooDeep)) = (most_nestings ≤ d)
    × (head_of old.rest ≡ Some x) × (new ≡ old)
Nests x ps d old new (Err (errors.Fault TooMany)) = (d < most_nestings)
    × (head_of old.rest ≡ Some x) × IsBeyond ps old.counts old.rest × (new ≡ old)

-- a phrase is read wherever one may be, or the machine ends with the fault
abbrev pub ReadsPhrase : {A T P H : Type 0} → (A → T) → (P → T) → (H → Type 0) → (H → ParserState)
    → (P → H → ParserState) → Spot → Spot → Result A ParseError → Type 0
ReadsPhrase {A} {T} {P} {H} view tree IsHole wanted given old new (Ok x) =
    (p : P) × (tree p ≡ view x)
    × ((h : H) → IsHole h → verdict old (wanted h) ≡ verdict new (given p h))
ReadsPhrase {A} {T} {P} {H} view tree IsHole wanted given old new (Err e) = (h : H) → IsHole h
    → EndsBad e new (verdict old (wanted h))

abbrev pub ReadsFactor : ℕ → Spot → Spot → Result (Expression Name) ParseError → Type 0
ReadsFactor d = ReadsPhrase expression_view factor_tree
    (λ h. factor_depth h ≡ d) factor_wanted give_factor

abbrev pub ReadsTerm : ℕ → Spot → Spot → Result (Expression Name) ParseError → Type 0
ReadsTerm d = ReadsPhrase expression_view term_tree (λ h. term_depth h ≡ d)
    (λ h. factor_wanted (first_factor h)) term_had

abbrev pub ReadsExpr : ℕ → Spot → Spot → Result (Expression Name) ParseError → Type 0
ReadsExpr d = ReadsPhrase expression_view expr_tree (λ h. expr_depth h ≡ d)
    (λ h. factor_wanted (first_factor (first_term h))) expr_had

abbrev pub ReadsOperand : Spot → Spot → Result (Expression Name) ParseError → Type 0
ReadsOperand = ReadsPhrase expression_view factor_tree
    (λ h. factor_depth h ≤ most_nestings) factor_wanted give_factor

-- no operator goes on with a term, or with an expression
abbrev pub NoTimes : Spot → Type 0
NoTimes spot = No (sign s.Star) spot

abbrev pub NoOperator : Spot → Type 0
NoOperator spot = No (sign s.Star) spot × ((q : Additive) → No (additive q) spot)

abbrev pub ReadsLit : Spot → Spot → Result Literal ParseError → Type 0
ReadsLit = ReadsPhrase literal_view lit_tree (λ h. lit_depth h ≤ most_nestings) lit_wanted give_lit

abbrev pub ReadsUnit : ℕ → Spot → Spot → Result (Condition Test) ParseError → Type 0
ReadsUnit d = ReadsPhrase condition_view unit_tree (λ h. unit_depth h ≡ d) unit_wanted give_unit

-- a comparison from after its column, from after BETWEEN, and from after its relation
abbrev pub ReadsNamed : (UnitHole → ParserState) → Spot → Spot → Result (Condition Test) ParseError
    → Type 0
ReadsNamed wanted = ReadsPhrase condition_view unit_tree
    (λ h. unit_depth h ≤ most_nestings) wanted give_unit

abbrev pub ReadsConj : ℕ → Spot → Spot → Result (Condition Test) ParseError → Type 0
ReadsConj d = ReadsPhrase condition_view conj_tree (λ h. conj_depth h ≡ d)
    (λ h. unit_wanted (first_unit h)) conj_had

abbrev pub ReadsCond : ℕ → Spot → Spot → Result (Condition Test) ParseError → Type 0
ReadsCond d = ReadsPhrase condition_view cond_tree (λ h. cond_depth h ≡ d)
    (λ h. unit_wanted (first_unit (first_conj h))) cond_had

abbrev pub NoAnd : Spot → Type 0
NoAnd spot = No (keyword k.And) spot

abbrev pub NoLogic : Spot → Type 0
NoLogic spot = No (keyword k.And) spot × No (keyword k.Or) spot
