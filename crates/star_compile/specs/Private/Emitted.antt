-- The code that an emitter has written, and the piece of a program that it writes next.
use Rattle.std.specs.Prelude.{◌≡◌, ℕ, ◌+◌, ◌≤◌, List, [], ◌∷◌, ◌++◌}
use Rattle.star_schema.specs.{declared.column.ColumnId.ColumnId, declared.table.TableId.TableId}
use Rattle.star_plan.specs.declared.tree.Join.{Join}
use Rattle.star_query.specs.Tree.{Measure, count, fold}
use Rattle.star_program.specs.{Code.Code, Code.Then, declared.op.Op.TheVariants.Assign, declared.op.Operation.TheVariants.Find, declared.body.Step.Step}
use Rattle.star_compile_laws.specs.Compiled.{Env, Rest, column_code, expression_code, register_count, with_found}
use Rattle.star_compile.specs.declared.emitter.Emitter.{Emitter}
use Rattle.star_program.specs.CodeOfSteps as step

-- some steps, and the code after them
abbrev pub steps_then : List Step → Code → Code
steps_then [] k = k
steps_then (s ∷ steps) k = step.before s (steps_then steps k)

-- the state at the next instruction
abbrev pub env_of : Emitter → Env
env_of e = record { next = e.next; loaded = e.loaded.items; found = e.found.items }

-- some code, and a count of registers
pub record Completed : Type 0 where
  pub code : Code
  pub registers : ℕ

-- some code after the code of an emitter, and the number of registers at its end
unfoldable pub completed : Emitter → Code → Completed
completed e k = record {
  code = steps_then e.steps.items k;
  registers = e.next + register_count k;
}

-- the emitter has written a piece: whatever code follows the piece follows the written code
pub record Wrote (old new : Emitter) (piece : Env → (Env → Code) → Code) : Type 0 where
  pub same : (k : Env → Code)
      → completed new (k (env_of new)) ≡ completed old (piece (env_of old) k)

-- the same for a piece with the result x
pub record Writes {A : Type 0} (old new : Emitter) (piece : Env → (Env → A → Code) → Code) (x : A)
    : Type 0 where
  pub same : (k : Env → A → Code)
      → completed new (k (env_of new) x) ≡ completed old (piece (env_of old) k)

-- a piece is to be written; a program with it and with some code after it has at most 4,096
-- registers
pub record HasRegisterRoom {K : Type 0} (e : Emitter) (piece : Env → K → Code) : Type 0 where
  pub rest : K
  pub fits : (completed e (piece (env_of e) rest)).registers ≤ 4096

-- a row is found, by the register of its key
abbrev pub find_code : TableId → ℕ → Env → Rest ℕ → Code
find_code t key env k = Then (Assign env.next (Find t key)) (k (with_found env t) env.next)

-- columns, after some registers
abbrev pub keys_after : List Join → List ColumnId → List ℕ → Env → Rest (List ℕ) → Code
keys_after js [] so_far env k = k env so_far
keys_after js (c ∷ cs) so_far env k =
    column_code js c env (λ e x. keys_after js cs (so_far ++ x ∷ []) e k)

-- the value of an aggregate, after some registers
abbrev pub value_after : List Join → Measure ColumnId → List ℕ → Env → Rest (List ℕ) → Code
value_after js count so_far env k = k env so_far
value_after js (fold f a) so_far env k =
    expression_code js a env (λ e x. k e (so_far ++ x ∷ []))

-- the values of aggregates, after some registers
abbrev pub values_after : List Join → List (Measure ColumnId) → List ℕ → Env → Rest (List ℕ) → Code
values_after js [] so_far env k = k env so_far
values_after js (m ∷ ms) so_far env k =
    value_after js m so_far env (λ e rs. values_after js ms rs e k)
