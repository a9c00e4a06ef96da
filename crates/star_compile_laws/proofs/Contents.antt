-- What the registers of a turn hold, and what each instruction of a turn makes of it.
use Rattle.std.{proofs.Common.{◌≡◌, ℕ, Bool, true, false, List, [], ◌∷◌, refl, arith}, specs.Prelude.{ℤ, pos, ◌+ℤ◌}, proofs.lemmas.Grind.common_steps}
use Rattle.star_schema.specs.{declared.table.TableId.TableId, declared.column.ColumnId.ColumnId, Schema.table_of, Tables.Value, Tables.Number, Tables.Text}
use Rattle.star_interval.specs.Range.{is_i64}
use Rattle.star_query.specs.{Tree.{Comparison, Expression, Measure, constant, add, sub, mul, or, and, not, compare, between, test, count, fold}, declared.token.Relation.Relation, Spelled.{has_few_digits, is_printable_text}}
use Rattle.star_plan.specs.{declared.tree.Join.Join, Meaning.RowCondition, Sound.joins_table}
use Rattle.star_program.specs.{declared.op.Operation.TheVariants.{Binary, Const, Edge as edge_of, Find, Load, Not, Within}, declared.op.Edge.Edge, declared.op.Edge.TheVariants.High, declared.op.Edge.TheVariants.Low, declared.op.Operation.Operation, declared.op.Operator.Operator, Code.Code, World.is_text}
use Rattle.star_compile_laws.specs.Compiled.{Env, Rest, beside, column_code, condition_code, foreign_of, test_code, between_code, write}
use Rattle.star_query.specs.declared.token.Relation.TheVariants as sign
use Rattle.star_program.specs.declared.op.Operator.TheVariants as operator

-- ---- tests

-- what a column's values are compared with
pub data Limit : Type 0 where
  number : ℤ → Limit
  edge : Edge → List ℕ → Limit

abbrev pub limit_of : ColumnId → Limit → Operation
limit_of c (number a) = Const a
limit_of c (edge e text) = edge_of e c text

abbrev pub of_texts : Limit → Bool
of_texts (number a) = false
of_texts (edge e text) = true

abbrev pub limit_is_said : Limit → Bool
limit_is_said (number a) = is_i64 a
limit_is_said (edge e text) = is_printable_text text

pub data Comparing : Type 0 where
  less at_most equal : Comparing

abbrev pub operator_of : Comparing → Operator
operator_of less = operator.Less
operator_of at_most = operator.LessOrEqual
operator_of equal = operator.Equal

-- a column before a limit or after it, within two, or not so
pub data Form : Type 0 where
  before after : Comparing → Limit → Form
  within : Limit → Limit → Form
  negated : Form → Form

-- the code of a test of a column that register x holds
abbrev pub form_code : ColumnId → ℕ → Form → Env → Rest ℕ → Code
form_code c x (before o l) env k = beside (limit_of c l) (λ n. Binary (operator_of o) x n) env k
form_code c x (after o l) env k = beside (limit_of c l) (λ n. Binary (operator_of o) n x) env k
form_code c x (within l u) env k =
    write (limit_of c l) env (λ e m. beside (limit_of c u) (λ n. Within x m n) e k)
form_code c x (negated f) env k = form_code c x f env (λ e y. write (Not y) e k)

abbrev pub starts : Value → Limit
starts (Number a) = number a
starts (Text t) = edge Low t

abbrev pub ends : Value → Limit
ends (Number a) = number (a +ℤ pos 1)
ends (Text t) = edge High t

abbrev pub equals : Value → Form
equals (Number a) = before equal (number a)
equals (Text t) = within (edge Low t) (edge High t)

abbrev pub form_of : Relation → Value → Form
form_of sign.Equal v = equals v
form_of sign.Unequal v = negated (equals v)
form_of sign.Less v = before less (starts v)
form_of sign.AtMost (Number a) = before at_most (number a)
form_of sign.AtMost (Text t) = before less (edge High t)
form_of sign.Greater (Number a) = after less (number a)
form_of sign.Greater (Text t) = after at_most (edge High t)
form_of sign.AtLeast v = after at_most (starts v)

abbrev pub column_tested : Comparison ColumnId Value → ColumnId
column_tested (compare c s v) = c
column_tested (between c from upto) = c

abbrev pub comparison_form : Comparison ColumnId Value → Form
comparison_form (compare c s v) = form_of s v
comparison_form (between c from upto) = within (starts from) (ends upto)

abbrev pub comparison_code : ℕ → Comparison ColumnId Value → Env → Rest ℕ → Code
comparison_code x (compare c s v) env k = test_code s c x v env k
comparison_code x (between c from upto) env k = between_code c x from upto env k

pub has_form : (x : ℕ) (t : Comparison ColumnId Value) (env : Env) (k : Rest ℕ)
    → form_code (column_tested t) x (comparison_form t) env k ≡ comparison_code x t env k
has_form x it env k = grind (arith, common_steps)

pub tested_code : (js : List Join) (t : Comparison ColumnId Value) (env : Env) (k : Rest ℕ)
    → column_code js (column_tested t) env (λ e x. comparison_code x t e k)
    ≡ condition_code js (test t) env k
tested_code js (compare c s v) env k = refl
tested_code js (between c from upto) env k = refl

-- ---- registers

-- what a register holds: the row of a table, a column of it, a limit for a column, a test of a
-- column, what a condition comes to, or an expression
pub data Content : Type 0 where
  OfRow : TableId → Content
  OfColumn : ColumnId → Content
  OfLimit : ColumnId → Limit → Content
  OfTest : ColumnId → Form → Content
  OfCondition : RowCondition → Content
  OfExpression : Expression ColumnId → Content

-- each register of a list holds its content
abbrev pub AllHold : (ℕ → Content → Type 0) → List Content → List ℕ → Type 0
AllHold Holds [] [] = Unit {0}
AllHold Holds (x ∷ xs) (r ∷ rs) = Holds r x × AllHold Holds xs rs
AllHold Holds _ _ = ⊥

pub all_kept : (P Q : ℕ → Content → Type 0) → ((r : ℕ) (x : Content) → P r x → Q r x)
    → (xs : List Content) (rs : List ℕ) → AllHold P xs rs → AllHold Q xs rs
all_kept P Q keeps [] [] h = tt
all_kept P Q keeps (x ∷ xs) (r ∷ rs) h = (keeps r x h.0, all_kept P Q keeps xs rs h.1)
all_kept P Q keeps [] (r ∷ rs) h = absurd h
all_kept P Q keeps (x ∷ xs) [] h = absurd h

-- the numbers that are put: one for each aggregate that is no count
abbrev pub numbers_put : List (Measure ColumnId) → List Content
numbers_put [] = []
numbers_put (count ∷ ms) = numbers_put ms
numbers_put (fold f a ∷ ms) = OfExpression a ∷ numbers_put ms

-- a limit is of the column's kind where the plan is sound, and can be said where it is spelled
pub record IsLimit (Sound Spelled : Type 0) (c : ColumnId) (l : Limit) : Type 0 where
  pub kind : Sound → is_text c ≡ of_texts l
  pub said : Spelled → limit_is_said l ≡ true

-- what an operation makes of what registers hold, in a turn of a plan with these joins
pub data Makes (js : List Join) (Sound Spelled : Type 0) (Holds : ℕ → Content → Type 0)
    : Operation → Content → Type 0 where
  loads : (c : ColumnId) (t : TableId) (row : ℕ) → (Sound → table_of c ≡ t)
      → Holds row (OfRow t) → Makes js Sound Spelled Holds (Load c row) (OfColumn c)
  finds : (t : TableId) (key : ℕ) → (Sound → joins_table js t ≡ true)
      → Holds key (OfColumn (foreign_of js t)) → Makes js Sound Spelled Holds (Find t key) (OfRow t)
  limits : (c : ColumnId) (l : Limit) → IsLimit Sound Spelled c l
      → Makes js Sound Spelled Holds (limit_of c l) (OfLimit c l)
  is_before : (o : Comparing) (c : ColumnId) (l : Limit) (x m : ℕ)
      → IsLimit Sound Spelled c l → Holds x (OfColumn c) → Holds m (OfLimit c l)
      → Makes js Sound Spelled Holds (Binary (operator_of o) x m) (OfTest c (before o l))
  is_after : (o : Comparing) (c : ColumnId) (l : Limit) (x m : ℕ)
      → IsLimit Sound Spelled c l → Holds x (OfColumn c) → Holds m (OfLimit c l)
      → Makes js Sound Spelled Holds (Binary (operator_of o) m x) (OfTest c (after o l))
  is_within : (c : ColumnId) (l u : Limit) (x m n : ℕ) → IsLimit Sound Spelled c l
      → IsLimit Sound Spelled c u → Holds x (OfColumn c) → Holds m (OfLimit c l)
      → Holds n (OfLimit c u) → Makes js Sound Spelled Holds (Within x m n) (OfTest c (within l u))
  fails : (c : ColumnId) (f : Form) (x : ℕ) → Holds x (OfTest c f)
      → Makes js Sound Spelled Holds (Not x) (OfTest c (negated f))
  denies : (d : RowCondition) (x : ℕ) → Holds x (OfCondition d)
      → Makes js Sound Spelled Holds (Not x) (OfCondition (not d))
  either : (a b : RowCondition) (x y : ℕ) → Holds x (OfCondition a) → Holds y (OfCondition b)
      → Makes js Sound Spelled Holds (Binary operator.Or x y) (OfCondition (or a b))
  both : (a b : RowCondition) (x y : ℕ) → Holds x (OfCondition a) → Holds y (OfCondition b)
      → Makes js Sound Spelled Holds (Binary operator.And x y) (OfCondition (and a b))
  constant_made : (z : ℤ) → (Spelled → has_few_digits z ≡ true)
      → Makes js Sound Spelled Holds (Const z) (OfExpression (constant z))
  adds : (a b : Expression ColumnId) (x y : ℕ) → Holds x (OfExpression a) → Holds y (OfExpression b)
      → Makes js Sound Spelled Holds (Binary operator.Add x y) (OfExpression (add a b))
  subtracts : (a b : Expression ColumnId) (x y : ℕ) → Holds x (OfExpression a)
      → Holds y (OfExpression b)
      → Makes js Sound Spelled Holds (Binary operator.Sub x y) (OfExpression (sub a b))
  multiplies : (a b : Expression ColumnId) (x y : ℕ) → Holds x (OfExpression a)
      → Holds y (OfExpression b)
      → Makes js Sound Spelled Holds (Binary operator.Mul x y) (OfExpression (mul a b))
