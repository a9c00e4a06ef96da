-- Short words for instructions, in which worked programs are written.
use Rattle.star_safety.proofs.Common.{Code, ColumnId, GroupDecl, List, Op, Operator, Parts, TableId, Then, [], program, ℕ, ℤ, ◌∷◌}
use Rattle.star_program.specs.declared.op.Op.TheVariants as op
use Rattle.star_program.specs.declared.op.Edge.TheVariants as edge
use Rattle.star_program.specs.declared.op.Operation.TheVariants as operation
use Rattle.star_program.specs.declared.op.Operator.TheVariants as operator

abbrev pub const : ℕ → ℤ → Op
const t z = op.Assign t (operation.Const z)

abbrev pub low : ℕ → ColumnId → List ℕ → Op
low t c text = op.Assign t (operation.Edge edge.Low c text)

abbrev pub load : ℕ → ColumnId → ℕ → Op
load t c row = op.Assign t (operation.Load c row)

abbrev pub find : ℕ → TableId → ℕ → Op
find t table k = op.Assign t (operation.Find table k)

abbrev binary : Operator → ℕ → ℕ → ℕ → Op
binary o t a b = op.Assign t (operation.Binary o a b)

abbrev pub add : ℕ → ℕ → ℕ → Op
add t a b = binary operator.Add t a b

abbrev pub sub : ℕ → ℕ → ℕ → Op
sub t a b = binary operator.Sub t a b

abbrev pub mul : ℕ → ℕ → ℕ → Op
mul t a b = binary operator.Mul t a b

abbrev pub eq : ℕ → ℕ → ℕ → Op
eq t a b = binary operator.Equal t a b

abbrev pub within : ℕ → ℕ → ℕ → ℕ → Op
within t x a b = op.Assign t (operation.Within x a b)

abbrev pub opposite : ℕ → ℕ → Op
opposite t f = op.Assign t (operation.Not f)

abbrev pub keep : ℕ → Op
keep f = op.Keep f

abbrev pub put : ℕ → List ℕ → List ℕ → Op
put g keys values = op.Put g keys values

abbrev pub read : ℕ → ℕ → ℕ → ℤ → Op
read t g a default = op.Assign t (operation.Read g a default)

-- instructions one after another, and what comes after them
abbrev pub acts : List Op → Code → Code
acts [] rest = rest
acts (o ∷ os) rest = Then o (acts os rest)

-- a program with registers r0 to r9 that shows the first aggregate of its first group
abbrev pub over : List GroupDecl → Code → Parts
over groups body = program 10 groups 0 body
