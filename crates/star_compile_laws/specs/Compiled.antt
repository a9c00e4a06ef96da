-- The program of a plan.
use Rattle.std.specs.Prelude.{ℕ, ◌+◌, pos, ◌+ℤ◌, Bool, true, false, List, [], ◌∷◌, ◌++◌, map, Option, Some, None, if◌then◌else◌}
use Rattle.star_schema.specs.{declared.table.TableId.TableId, declared.table.TableId.TheVariants.Lineorder, declared.column.ColumnId.ColumnId, declared.column.ColumnId.TheVariants.LoOrderdate, declared.group.GroupColumn.GroupColumn, Schema.{is_table, table_of}, Tables.{Value, Number, Text}}
use Rattle.star_query.specs.{Tree.{Expression, column, constant, add, sub, mul, or, and, not, test, compare, between, Measure, count, fold}, declared.token.Relation.Relation}
use Rattle.star_plan.specs.{declared.tree.Join.Join, Meaning.aggregate_of, Meaning.Plan, Meaning.RowCondition}
use Rattle.star_program.specs.{declared.op.Operation.TheVariants.{Const, Edge, Load, Find, Binary, Within, Not}, declared.group.GroupDecl.GroupDecl, declared.group.GroupKey.GroupKey, declared.op.Edge.TheVariants.{Low, High}, declared.op.Op.TheVariants.{Assign, Keep, Put}, declared.op.Operation.Operation, declared.op.Operator.Operator, declared.program.Parts.Parts, declared.program.Show.Show, Code.{Code, Stop, Then, Each}, Faults.target_of, World.{is_column, is_text}}
use Rattle.star_query_meaning.specs.Answers.{shown_name}
use Rattle.star_query.specs.declared.token.Relation.TheVariants as sign
use Rattle.star_program.specs.declared.group.GroupKey.TheVariants as key
use Rattle.star_program.specs.declared.op.Operator.TheVariants as operator

-- ---- what is known at an instruction

-- the next register, and the registers of the columns that are loaded and of the tables whose row
-- is found
pub record Env : Type 0 where
  pub next : ℕ
  pub loaded : List (ColumnId × ℕ)
  pub found : List (TableId × ℕ)

-- register 0 has the row of the fact
abbrev pub env_first : Env
env_first = record { next = 1; loaded = []; found = [] }

-- the register of a key, by its first entry
abbrev pub register_in : {K : Type 0} → (same : K → K → Bool) → List (K × ℕ) → K → Option ℕ
register_in same [] k = None
register_in same (e ∷ es) k = if same k e.0 then Some e.1 else register_in same es k

-- after an instruction that writes the next register; after a load; after a find
abbrev pub one_more : Env → Env
one_more env = record env { next = env.next + 1 }

abbrev pub with_loaded : Env → ColumnId → Env
with_loaded env c = record (one_more env) { loaded = env.loaded ++ (c, env.next) ∷ [] }

abbrev pub with_found : Env → TableId → Env
with_found env t = record (one_more env) { found = env.found ++ (t, env.next) ∷ [] }

-- the continuation of a piece: the code that follows, by what is then known and by the register of
-- the piece's result, or by those of its results; each piece below is given it
abbrev pub Rest : Type 0 → Type 0
Rest R = Env → R → Code

-- registers are numbered in the order in which they are written
abbrev pub write : Operation → Env → Rest ℕ → Code
write o env k = Then (Assign env.next o) (k (one_more env) env.next)

-- an operator comes after its left part and then its right one
abbrev pub binary_code : (left right : Env → Rest ℕ → Code) → Operator → Env → Rest ℕ → Code
binary_code left right o env k = left env (λ e x. right e (λ e y. write (Binary o x y) e k))

-- the result of a piece, and then those of others
abbrev pub one_before : (Env → Rest ℕ → Code) → (Env → Rest (List ℕ) → Code) → Env → Rest (List ℕ) → Code
one_before first others env k = first env (λ e x. others e (λ e xs. k e (x ∷ xs)))

-- ---- columns: each is loaded once, at its first use

abbrev pub load_code : ColumnId → ℕ → Env → Rest ℕ → Code
load_code c row env k = Then (Assign env.next (Load c row)) (k (with_loaded env c) env.next)

-- a column of the fact, from the register that has it already, if there is one
abbrev pub fact_code : ColumnId → Env → Rest ℕ → Option ℕ → Code
fact_code c env k (Some r) = k env r
fact_code c env k None = load_code c 0 env k

-- the foreign key by which a table is joined; of one that isn't, which no sound plan asks for, any
abbrev pub foreign_of : List Join → TableId → ColumnId
foreign_of [] t = LoOrderdate
foreign_of (j ∷ js) t = if is_table t (table_of j.key) then j.foreign else foreign_of js t

-- the row of a dimension is found once, at the first use of one of its columns: by the foreign key
abbrev pub row_code : List Join → TableId → Env → Rest ℕ → Option ℕ → Code
row_code js t env k (Some r) = k env r
row_code js t env k None =
    fact_code (foreign_of js t) env
    (λ e r. Then (Assign e.next (Find t r)) (k (with_found e t) e.next))
    (register_in is_column env.loaded (foreign_of js t))

-- a column of the fact from the fact's row, and another from the row of its dimension
abbrev pub place_code : List Join → ColumnId → Env → Rest ℕ → (of_fact : Bool) → Code
place_code js c env k true = load_code c 0 env k
place_code js c env k false =
    row_code js (table_of c) env (λ e r. load_code c r e k) (register_in is_table env.found (table_of c))

abbrev pub column_from : List Join → ColumnId → Env → Rest ℕ → Option ℕ → Code
column_from js c env k (Some r) = k env r
column_from js c env k None = place_code js c env k (is_table (table_of c) Lineorder)

abbrev pub column_code : List Join → ColumnId → Env → Rest ℕ → Code
column_code js c env k = column_from js c env k (register_in is_column env.loaded c)

-- ---- conditions

-- the first value of a column that equals a value, and the first that is greater: of
-- numbers the value and the next, of texts the edges of the text
abbrev pub start_of : ColumnId → Value → Operation
start_of c (Number a) = Const a
start_of c (Text t) = Edge Low c t

abbrev pub end_behind : ColumnId → Value → Operation
end_behind c (Number a) = Const (a +ℤ pos 1)
end_behind c (Text t) = Edge High c t

-- an operand is made anew at each use, and then an operation has it
abbrev pub beside : Operation → (ℕ → Operation) → Env → Rest ℕ → Code
beside operand used env k = write operand env (λ e n. write (used n) e k)

-- from the first value that equals the one, to the last that equals the other
abbrev pub between_code : ColumnId → ℕ → Value → Value → Env → Rest ℕ → Code
between_code c x from upto env k =
    write (start_of c from) env (λ e m. beside (end_behind c upto) (λ n. Within x m n) e k)

-- a number is compared by an operator; a text equals another if it lies between it and itself
abbrev pub equal_code : ColumnId → ℕ → Value → Env → Rest ℕ → Code
equal_code c x (Number a) env k = beside (Const a) (λ n. Binary operator.Equal x n) env k
equal_code c x (Text t) env k = between_code c x (Text t) (Text t) env k

-- a column, which is in register x, compared with a value; if a text is compared by an edge, the
-- operator takes the edge in or leaves it out
abbrev pub test_code : Relation → ColumnId → ℕ → Value → Env → Rest ℕ → Code
test_code sign.Equal c x v env k = equal_code c x v env k
test_code sign.Unequal c x v env k = equal_code c x v env (λ e y. write (Not y) e k)
test_code sign.Less c x v env k = beside (start_of c v) (λ n. Binary operator.Less x n) env k
test_code sign.AtMost c x (Number a) env k =
    beside (Const a) (λ n. Binary operator.LessOrEqual x n) env k
test_code sign.AtMost c x (Text t) env k =
    beside (Edge High c t) (λ n. Binary operator.Less x n) env k
test_code sign.Greater c x (Number a) env k =
    beside (Const a) (λ n. Binary operator.Less n x) env k
test_code sign.Greater c x (Text t) env k =
    beside (Edge High c t) (λ n. Binary operator.LessOrEqual n x) env k
test_code sign.AtLeast c x v env k =
    beside (start_of c v) (λ n. Binary operator.LessOrEqual n x) env k

abbrev pub condition_code : List Join → RowCondition → Env → Rest ℕ → Code
condition_code js (or a b) env k =
    binary_code (condition_code js a) (condition_code js b) operator.Or env k
condition_code js (and a b) env k =
    binary_code (condition_code js a) (condition_code js b) operator.And env k
condition_code js (not a) env k = condition_code js a env (λ e x. write (Not x) e k)
condition_code js (test (compare c s v)) env k = column_code js c env (λ e x. test_code s c x v e k)
condition_code js (test (between c from upto)) env k =
    column_code js c env (λ e x. between_code c x from upto e k)

-- each conjunct is computed and kept before the next
abbrev pub conjunct_code : List Join → RowCondition → Env → (Env → Code) → Code
conjunct_code js c env k = condition_code js c env (λ e x. Then (Keep x) (k e))

abbrev pub conjuncts_code : List Join → List RowCondition → Env → (Env → Code) → Code
conjuncts_code js [] env k = k env
conjuncts_code js (c ∷ cs) env k = conjunct_code js c env (λ e. conjuncts_code js cs e k)

-- ---- the put

abbrev pub expression_code : List Join → Expression ColumnId → Env → Rest ℕ → Code
expression_code js (column c) env k = column_code js c env k
expression_code js (constant z) env k = write (Const z) env k
expression_code js (add a b) env k =
    binary_code (expression_code js a) (expression_code js b) operator.Add env k
expression_code js (sub a b) env k =
    binary_code (expression_code js a) (expression_code js b) operator.Sub env k
expression_code js (mul a b) env k =
    binary_code (expression_code js a) (expression_code js b) operator.Mul env k

-- the keys in the order of GROUP BY
abbrev pub keys_code : List Join → List ColumnId → Env → Rest (List ℕ) → Code
keys_code js [] env k = k env []
keys_code js (c ∷ cs) env k = one_before (column_code js c) (keys_code js cs) env k

-- and a value for each aggregate that isn't a count, in the order of SELECT
abbrev pub values_code : List Join → List (Measure ColumnId) → Env → Rest (List ℕ) → Code
values_code js [] env k = k env []
values_code js (count ∷ ms) env k = values_code js ms env k
values_code js (fold f a ∷ ms) env k = one_before (expression_code js a) (values_code js ms) env k

-- ---- the program

-- a turn of the scan: the conjuncts, the keys, the values of the aggregates, and one put
abbrev pub turn_code : Plan → Code
turn_code p =
    conjuncts_code p.joins p.conjuncts env_first (λ e.
    keys_code p.joins p.keys e (λ e keys.
    values_code p.joins p.measures e (λ e values. Then (Put 0 keys values) Stop)))

-- one scan of the fact
abbrev pub body_code : Plan → Code
body_code p = Each Lineorder 0 (turn_code p) Stop

-- how many registers some code writes
abbrev pub writes_one : Option ℕ → ℕ
writes_one None = 0
writes_one (Some t) = 1

abbrev pub register_count : Code → ℕ
register_count Stop = 0
register_count (Then o rest) = writes_one (target_of o) + register_count rest
register_count (Each t r body rest) = 1 + register_count body + register_count rest

-- a column of texts is a key as its texts, and one of numbers as numbers
abbrev pub key_of_group : ColumnId → GroupKey
key_of_group c = if is_text c then key.Text c else key.Number

abbrev pub plan_group : Plan → GroupDecl
plan_group p = record {
  shape = p.shape;
  keys = map key_of_group p.keys;
  aggregates = map aggregate_of p.measures;
}

abbrev pub plan_show : Plan → GroupColumn → Show
plan_show p c = record { name = shown_name p c; column = c }

-- the program of a plan: one group, one scan of the fact, the items of SELECT and the keys of ORDER
-- BY as they come
abbrev pub compiled : Plan → Parts
compiled p = record {
  registers = register_count (body_code p);
  groups = plan_group p ∷ [];
  body = body_code p;
  report = 0;
  shows = map (plan_show p) p.items;
  sorts = p.sorts;
}
