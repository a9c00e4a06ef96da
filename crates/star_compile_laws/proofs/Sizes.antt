-- How long the body of a compiled program is: a column costs one instruction to load, and a
-- dimension two more, once.
use Rattle.std.{proofs.Common.{◌≡◌, ℕ, zero, suc, ◌+◌, ◌*◌, ◌≤◌, Bool, true, false, List, [], ◌∷◌, ◌++◌, length, Option, Some, None, refl, arith}, specs.List.sum_by, proofs.lemmas.List.Sums.sum_by-cons, proofs.lemmas.Grind.common_steps}
use Rattle.star_schema.{specs.declared.table.TableId.TableId, specs.declared.column.ColumnId.ColumnId, specs.Schema.{is_table, table_of}, specs.Tables.{Value, Number, Text}, specs.declared.table.TableId.TheVariants.{Date, Customer, Supplier, Part, Lineorder}, proofs.Same.table_same}
use Rattle.star_query.specs.{declared.token.Relation.Relation, Limits.{operands_of, comparisons_of, measure_operands}, Tree.{Expression, column, constant, add, sub, mul, or, and, not, test, compare, between, Measure, count, fold}}
use Rattle.star_query.specs.declared.token.Relation.TheVariants as sign
use Rattle.star_plan.specs.{declared.tree.Join.Join, Meaning.Plan, Meaning.RowCondition}
use Rattle.star_program.specs.{declared.op.Op.TheVariants.{Assign, Keep, Put}, declared.op.Operation.Operation, declared.op.Operation.TheVariants.{Binary, Const, Find, Not}, declared.op.Operator.Operator, Code.{Code, Stop, Then, Each, code_size}, Faults.target_of, World.is_column}
use Rattle.star_program.specs.declared.op.Operator.TheVariants as operator
use Rattle.star_compile_laws.{specs.Compiled.{Env, Rest, one_before, binary_code, column_code, env_first, register_in, one_more, with_loaded, with_found, foreign_of, fact_code, row_code, place_code, column_from, test_code, between_code, condition_code, expression_code, conjuncts_code, keys_code, values_code, body_code, write, load_code, writes_one, register_count}, proofs.Entries.{one_if, missing, entry_falls}}

-- ---- tables whose rows are not found

-- a sum over the five tables
abbrev total : (TableId → ℕ) → ℕ
total f = f Date + f Customer + f Supplier + f Part + f Lineorder

pub unfound : List (TableId × ℕ) → ℕ
unfound es = total (λ t. missing (register_in is_table es t))

few_missing : (o : Option ℕ) → missing o ≤ 1
unfolding missing
few_missing None = omega arith
few_missing (Some r) = omega arith

pub few_unfound : (es : List (TableId × ℕ)) → unfound es ≤ 5
unfolding unfound
few_unfound es = grind (arith, common_steps, few_missing)

falls : (f g : TableId → ℕ) (t : TableId) → ((s : TableId) → one_if (is_table s t) + f s ≤ g s)
    → total f + 1 ≤ total g
falls f g Date h = omega (arith, h Date, h Customer, h Supplier, h Part, h Lineorder)
falls f g _ h = omega (arith, h Date, h Customer, h Supplier, h Part, h Lineorder)

-- a row that is found costs one table
pub found_once : (es : List (TableId × ℕ)) (t : TableId) (n : ℕ) → register_in is_table es t ≡ None
    → unfound (es ++ (t, n) ∷ []) + 1 ≤ unfound es
unfolding unfound
found_once es t n h = grind (arith, common_steps, falls, missing, entry_falls, table_same)

-- ---- pieces

-- what follows has at most `m` instructions, and two for each table whose row isn't found yet
abbrev Short : {A : Type 0} → ℕ → (Env → A → Code) → Type 0
Short {A} m k = (e : Env) (x : A) → code_size (k e x) ≤ m + 2 * unfound e.found

-- a piece adds at most `n`
abbrev Adds : {A : Type 0} → ℕ → (Env → (Env → A → Code) → Code) → Type 0
Adds {A} n piece = (env : Env) (k : Env → A → Code) (m : ℕ) → Short m k
    → code_size (piece env k) ≤ n + m + 2 * unfound env.found

-- or one less: there is always one more to come, an operator or a keep or what loads a column
abbrev AddsLess : ℕ → (Env → Rest ℕ → Code) → Type 0
AddsLess n piece = (env : Env) (k : Rest ℕ) (m : ℕ) → Short m k
    → 1 + code_size (piece env k) ≤ n + m + 2 * unfound env.found

of_binary : (left right : Env → Rest ℕ → Code) (o : Operator) (p q r : ℕ) → p + q ≡ r
    → AddsLess p left → AddsLess q right → AddsLess r (binary_code left right o)
of_binary left right o p q r sum f g env k m h =
    let whole =
    f env (λ e x. right e (λ e y. write (Binary o x y) e k)) (q + m)
    (λ e x.
    let rest = g e (λ e y. write (Binary o x y) e k) (1 + m)
    (λ e y. omega (arith, h (one_more e) e.next)) in
    omega arith) in
    omega arith

of_before : (first : Env → Rest ℕ → Code) (others : Env → Rest (List ℕ) → Code) (p q : ℕ)
    → Adds p first → Adds q others → Adds (p + q) (one_before first others)
of_before first others p q f g env k m h =
    let whole =
    f env (λ e x. others e (λ e xs. k e (x ∷ xs))) (q + m)
    (λ e x. omega (arith, g e (λ e xs. k e (x ∷ xs)) m (λ e xs. h e (x ∷ xs)))) in
    omega arith

of_fact : (c : ColumnId) (env : Env) (k : Rest ℕ) (m : ℕ) (o : Option ℕ)
    → ((e : Env) (x : ℕ) → e.found ≡ env.found → code_size (k e x) ≤ m)
    → code_size (fact_code c env k o) ≤ 1 + m
of_fact c env k m (Some r) h = omega (arith, h env r refl)
of_fact c env k m None h = omega (arith, h (with_loaded env c) env.next refl)

of_found : (t : TableId) (es : List (TableId × ℕ)) (k : Rest ℕ) (m : ℕ) (e : Env) (r : ℕ)
    → register_in is_table es t ≡ None → Short m k → e.found ≡ es
    → code_size (Then (Assign e.next (Find t r)) (k (with_found e t) e.next)) + 1
    ≤ m + 2 * unfound es
of_found t es k m e r none h same = grind (arith, common_steps, found_once, unfound)

of_one : (o : Operation) (env : Env) (k : Rest ℕ) (m : ℕ) → Short m k
    → code_size (write o env k) ≤ 1 + m + 2 * unfound env.found
of_one o env k m h = omega (arith, h (one_more env) env.next)

-- what follows some writes
abbrev behind : ℕ → Env → Env
behind zero env = env
behind (suc n) env = one_more (behind n env)

of_between : (c : ColumnId) (x : ℕ) (a b : Value) → Adds 3 (between_code c x a b)
of_between c x a b env k m h = omega (arith, h (behind 3 env) (behind 2 env).next)

-- a column beside a value takes at most four
of_test : (s : Relation) (c : ColumnId) (x : ℕ) (v : Value) → Adds 4 (test_code s c x v)
of_test sign.Equal c x (Number a) env k m h = omega (arith, h (behind 2 env) (behind 1 env).next)
of_test sign.Equal c x (Text t) env k m h = omega (arith, h (behind 3 env) (behind 2 env).next)
of_test sign.Unequal c x (Number a) env k m h = omega (arith, h (behind 3 env) (behind 2 env).next)
of_test sign.Unequal c x (Text t) env k m h = omega (arith, h (behind 4 env) (behind 3 env).next)
of_test _ c x (Number a) env k m h = omega (arith, h (behind 2 env) (behind 1 env).next)
of_test _ c x (Text t) env k m h = omega (arith, h (behind 2 env) (behind 1 env).next)

module _ (js : List Join) where
  of_row : (t : TableId) (env : Env) (k : Rest ℕ) (m : ℕ) (o : Option ℕ)
      → register_in is_table env.found t ≡ o → Short m k
      → code_size (row_code js t env k o) ≤ m + 2 * unfound env.found
  of_row t env k m (Some r) p h = h env r
  of_row t env k m None p h =
      by (m + 2 * unfound env.found) (λ e r same. of_found t env.found k m e r p h same)
    where
      by : (b : ℕ)
          → ((e : Env) (r : ℕ) → e.found ≡ env.found
          → code_size (Then (Assign e.next (Find t r)) (k (with_found e t) e.next)) + 1 ≤ b)
          → code_size (row_code js t env k None) ≤ b
      by zero g = absurd (omega (arith, g env 0 refl))
      by (suc b) g =
          let q =
          of_fact (foreign_of js t) env
          (λ e r. Then (Assign e.next (Find t r)) (k (with_found e t) e.next)) b
          (register_in is_column env.loaded (foreign_of js t))
          (λ e r same. omega (arith, g e r same)) in
          omega arith

  of_place : (c : ColumnId) (env : Env) (k : Rest ℕ) (m : ℕ) (b : Bool) → Short m k
      → code_size (place_code js c env k b) ≤ 1 + m + 2 * unfound env.found
  of_place c env k m true h = omega (arith, h (with_loaded env c) env.next)
  of_place c env k m false h = of_row (table_of c) env (λ e r. load_code c r e k) (1 + m)
      (register_in is_table env.found (table_of c)) refl
      (λ e r. omega (arith, h (with_loaded e c) e.next))

  of_column_from : (c : ColumnId) (env : Env) (k : Rest ℕ) (m : ℕ) (o : Option ℕ) → Short m k
      → code_size (column_from js c env k o) ≤ 1 + m + 2 * unfound env.found
  of_column_from c env k m (Some r) h = omega (arith, h env r)
  of_column_from c env k m None h = of_place c env k m (is_table (table_of c) Lineorder) h

  of_column : (c : ColumnId) → Adds 1 (column_code js c)
  of_column c env k m h = of_column_from c env k m (register_in is_column env.loaded c) h

  -- six for each comparison or negation: its column, at most four for the test, and what joins it
  -- to the others or keeps it
  of_condition : (c : RowCondition) → AddsLess (6 * comparisons_of c) (condition_code js c)
  of_condition (or a b) env k m h =
      of_binary (condition_code js a) (condition_code js b) operator.Or (6 * comparisons_of a)
      (6 * comparisons_of b) (6 * (comparisons_of a + comparisons_of b)) (omega arith)
      (of_condition a) (of_condition b) env k m h
  of_condition (and a b) env k m h =
      of_binary (condition_code js a) (condition_code js b) operator.And (6 * comparisons_of a)
      (6 * comparisons_of b) (6 * (comparisons_of a + comparisons_of b)) (omega arith)
      (of_condition a) (of_condition b) env k m h
  of_condition (not a) env k m h =
      omega (
        arith,
        of_condition a env (λ e x. write (Not x) e k) (1 + m)
            (λ e x. of_one (Not x) e k m h),
      )
  of_condition (test (compare c s v)) env k m h =
      omega (
        arith,
        of_column c env (λ e x. test_code s c x v e k) (4 + m)
            (λ e x. of_test s c x v e k m h),
      )
  of_condition (test (between c a b)) env k m h =
      omega (
        arith,
        of_column c env (λ e x. between_code c x a b e k) (3 + m)
            (λ e x. of_between c x a b e k m h),
      )

  -- two for each operand: itself, and an operator or what is put
  of_expression : (a : Expression ColumnId) → AddsLess (2 * operands_of a) (expression_code js a)
  of_expression (column c) env k m h = omega (arith, of_column c env k m h)
  of_expression (constant z) env k m h = omega (arith, of_one (Const z) env k m h)
  of_expression (add a b) env k m h =
      of_binary (expression_code js a) (expression_code js b) operator.Add (2 * operands_of a)
      (2 * operands_of b) (2 * (operands_of a + operands_of b)) (omega arith) (of_expression a)
      (of_expression b) env k m h
  of_expression (sub a b) env k m h =
      of_binary (expression_code js a) (expression_code js b) operator.Sub (2 * operands_of a)
      (2 * operands_of b) (2 * (operands_of a + operands_of b)) (omega arith) (of_expression a)
      (of_expression b) env k m h
  of_expression (mul a b) env k m h =
      of_binary (expression_code js a) (expression_code js b) operator.Mul (2 * operands_of a)
      (2 * operands_of b) (2 * (operands_of a + operands_of b)) (omega arith) (of_expression a)
      (of_expression b) env k m h

  of_conjuncts : (cs : List RowCondition) (env : Env) (k : Env → Code) (m : ℕ)
      → ((e : Env) → code_size (k e) ≤ m + 2 * unfound e.found)
      → code_size (conjuncts_code js cs env k)
      ≤ 6 * sum_by comparisons_of cs + m + 2 * unfound env.found
  of_conjuncts [] env k m h = omega (arith, h env)
  of_conjuncts (c ∷ cs) env k m h =
      let s = sum_by-cons comparisons_of c cs in
      let p =
      of_condition c env (λ e x. Then (Keep x) (conjuncts_code js cs e k))
      (6 * sum_by comparisons_of cs + m + 1) (λ e x. omega (arith, of_conjuncts cs e k m h)) in
      omega arith

  of_keys : (cs : List ColumnId) → Adds (length cs) (keys_code js cs)
  of_keys [] env k m h = omega (arith, h env [])
  of_keys (c ∷ cs) env k m h =
      omega (
        arith,
        of_before (column_code js c) (keys_code js cs) 1 (length cs) (of_column c)
            (of_keys cs) env k m h,
      )

  of_value : (a : Expression ColumnId) → Adds (2 * operands_of a) (expression_code js a)
  of_value a env k m h = omega (arith, of_expression a env k m h)

  of_measure : (x : Measure ColumnId) (a : Expression ColumnId) (ms : List (Measure ColumnId))
      → measure_operands x ≡ operands_of a
      → Adds (2 * sum_by measure_operands ms) (values_code js ms)
      → Adds (2 * sum_by measure_operands (x ∷ ms))
      (one_before (expression_code js a) (values_code js ms))
  of_measure x a ms operands rest env k m h =
      omega (
        arith,
        operands,
        sum_by-cons measure_operands x ms,
        of_before (expression_code js a) (values_code js ms) (2 * operands_of a)
            (2 * sum_by measure_operands ms) (of_value a) rest env k m h,
      )

  of_values : (ms : List (Measure ColumnId))
      → Adds (2 * sum_by measure_operands ms) (values_code js ms)
  of_values [] env k m h = omega (arith, h env [])
  of_values (count ∷ ms) env k m h =
      omega (arith, sum_by-cons measure_operands count ms, of_values ms env k m h)
  of_values (fold f a ∷ ms) env k m h = of_measure (fold f a) a ms refl (of_values ms) env k m h

-- at most six instructions for each comparison, two for each operand and one for each key; ten for
-- rows, one for the put and one for the scan
pub body_size : (p : Plan) → code_size (body_code p)
    ≤ 6 * sum_by comparisons_of p.conjuncts + length p.keys
    + 2 * sum_by measure_operands p.measures + 12
body_size p =
    let put = λ (ks : List ℕ) (e : Env) (vs : List ℕ). Then (Put 0 ks vs) Stop in
    let turn =
    of_conjuncts p.joins p.conjuncts env_first
    (λ e. keys_code p.joins p.keys e (λ e ks. values_code p.joins p.measures e (put ks)))
    (length p.keys + (2 * sum_by measure_operands p.measures + 1))
    (λ e. of_keys p.joins p.keys e (λ e ks. values_code p.joins p.measures e (put ks))
    (2 * sum_by measure_operands p.measures + 1)
    (λ e ks. of_values p.joins p.measures e (put ks) 1 (λ e vs. omega arith))) in
    let few = few_unfound env_first.found in
    omega arith

few_writes : (o : Option ℕ) → writes_one o ≤ 1
few_writes None = omega arith
few_writes (Some t) = omega arith

pub registers_size : (c : Code) → register_count c ≤ code_size c
registers_size Stop = omega arith
registers_size (Then o rest) = omega (arith, few_writes (target_of o), registers_size rest)
registers_size (Each t r body rest) = omega (arith, registers_size body, registers_size rest)
