-- An emitter writes pieces one behind another.
use Rattle.std.{proofs.Common.{◌≡◌, ℕ, ◌+◌, ◌≤◌, ◌<◌, List, [], ◌∷◌, ◌++◌, refl, sym, ap, subst, ◌∙◌, arith, append-nil, append_assoc, Result, Ok, Err, IfOk}, specs.declared.alloc.AllocError.AllocError}
use Rattle.star_schema.specs.declared.{column.ColumnId.ColumnId, table.TableId.TableId}
use Rattle.star_plan.specs.{declared.tree.Join.Join, Meaning.RowCondition}
use Rattle.star_query.specs.{Limits.{operands_of, comparisons_of}, declared.token.Fold.Fold, Tree.{Expression, column, constant, add, sub, mul, or, and, not, test, compare, between, Measure, count, fold}}
use Rattle.star_program.specs.{declared.op.Op.Op, declared.op.Op.TheVariants.{Assign, Keep}, declared.op.Operation.Operation, declared.op.Operation.TheVariants.Binary, declared.op.Operator.Operator, declared.body.Step.Step, declared.body.Step.TheVariants.Act, Code.{Code, Then}, Faults.target_of}
use Rattle.star_program.specs.CodeOfSteps as step
use Rattle.star_compile_laws.specs.Compiled.{Env, Rest, writes_one, register_count, column_code, expression_code, condition_code, conjunct_code, keys_code, values_code, one_before, binary_code, write, one_more}
use Rattle.star_compile.specs.{declared.emitter.Emitter.Emitter, Private.Emitted.{Completed, steps_then, env_of, completed, Wrote, Writes, HasRegisterRoom, keys_after, value_after, values_after}}

-- ---- one more step

then_last : (steps : List Step) (s : Step) (k : Code)
    → steps_then (steps ++ s ∷ []) k ≡ steps_then steps (step.before s k)
then_last [] s k = refl
then_last (x ∷ steps) s k = ap (step.before x) (then_last steps s k)

abbrev pub made : Code → ℕ → Completed
made c n = record { code = c; registers = n }

-- an instruction that numbers as many registers as it writes
pub act : (old new : Emitter) (o : Op) (k : Code) → new.steps.items ≡ old.steps.items ++ Act o ∷ []
    → new.next ≡ old.next + writes_one (target_of o) → completed new k ≡ completed old (Then o k)
unfolding completed
act old new o k pushed next =
    let code : steps_then new.steps.items k ≡ steps_then old.steps.items (Then o k) =
    ap (λ l. steps_then l k) pushed ∙ then_last old.steps.items (Act o) k in
    let count : new.next + register_count k
    ≡ old.next + (writes_one (target_of o) + register_count k) = omega arith in
    λ i. made (code i) (count i)

-- what an assignment is: the next register is written, and then this is known
abbrev assignment : Operation → (Env → Env) → Env → Rest ℕ → Code
assignment o known env k = Then (Assign env.next o) (k (known env) env.next)

pub room_to_assign : {e : Emitter} {o : Operation} {known : Env → Env}
    → HasRegisterRoom e (assignment o known) → e.next < 4096
unfolding completed
room_to_assign room = omega (arith, room.fits)

abbrev env : ℕ → List (ColumnId × ℕ) → List (TableId × ℕ) → Env
env n ls fs = record { next = n; loaded = ls; found = fs }

pub assigned : {old new : Emitter} {o : Operation} {known : Env → Env} {r : ℕ}
    → new.steps.items ≡ old.steps.items ++ Act (Assign old.next o) ∷ [] → new.next ≡ old.next + 1
    → new.loaded.items ≡ (known (env_of old)).loaded → new.found.items ≡ (known (env_of old)).found
    → (known (env_of old)).next ≡ old.next + 1 → r ≡ old.next
    → Writes old new (assignment o known) r
assigned {old = old} {new = new} {o = o} {r = r} pushed next loaded found known_next register =
    record {
      same = λ k.
          act old new (Assign old.next o) (k (env_of new) r) pushed next
          ∙ (λ i.
          completed old
          (Then (Assign old.next o)
          (k (env ((next ∙ sym known_next) i) (loaded i) (found i)) (register i))));
    }

-- the same of what a call answers
pub assigned_if_ok : (result : Result ℕ AllocError) (old new : Emitter) (o : Operation)
    → IfOk result (λ r. r ≡ old.next)
    → IfOk result (λ _. new.steps.items ≡ old.steps.items ++ Act (Assign old.next o) ∷ [])
    → IfOk result (λ _. new.next ≡ old.next + 1) → new.loaded ≡ old.loaded → new.found ≡ old.found
    → IfOk result (Writes old new (assignment o one_more))
assigned_if_ok (Err e) old new o register pushed next loaded found = tt
assigned_if_ok (Ok r) old new o register pushed next loaded found =
    assigned pushed next (ap (λ v. v.items) loaded) (ap (λ v. v.items) found) refl register

-- ---- a piece and then another

abbrev followed_by : {K : Type 0} → (Env → Rest ℕ → Code) → (ℕ → Env → K → Code) → Env → K → Code
followed_by first second env k = first env (λ e x. second x e k)

-- there is room for a piece that, with some code after it, makes a whole of few registers
pub room_where : {K : Type 0} {e : Emitter} {piece : Env → K → Code} {w : Completed} (rest : K)
    → completed e (piece (env_of e) rest) ≡ w → w.registers ≤ 4096 → HasRegisterRoom e piece
room_where rest same few =
    record { rest = rest; fits = subst (λ w. w.registers ≤ 4096) (sym same) few }

pub room_for_first : {K : Type 0} {e : Emitter} {first : Env → Rest ℕ → Code}
    (second : ℕ → Env → K → Code) → HasRegisterRoom e (followed_by first second)
    → HasRegisterRoom e first
room_for_first second room = record { rest = λ e x. second x e room.rest; fits = room.fits }

pub room_for_second : {K : Type 0} {old new : Emitter} {first : Env → Rest ℕ → Code} {x : ℕ}
    (second : ℕ → Env → K → Code) → Writes old new first x
    → HasRegisterRoom old (followed_by first second) → HasRegisterRoom new (second x)
room_for_second second wrote room =
    room_where room.rest (wrote.same (λ e x. second x e room.rest)) room.fits

pub then_if_ok : {A : Type 0} (result : Result A AllocError) {old middle : Emitter} (new : Emitter)
    {first : Env → Rest ℕ → Code} {x : ℕ} (second : ℕ → Env → (Env → A → Code) → Code)
    → Writes old middle first x → IfOk result (Writes middle new (second x))
    → IfOk result (Writes old new (followed_by first second))
then_if_ok (Err e) new second f g = tt
then_if_ok (Ok y) new second f g = record { same = λ k. g.same k ∙ f.same (λ e x. second x e k) }

-- an operator's right part, behind its left one
pub room_for_right : {old new : Emitter} {left : Env → Rest ℕ → Code} (right : Env → Rest ℕ → Code)
    (o : Operator) {x : ℕ} → Writes old new left x → HasRegisterRoom old (binary_code left right o)
    → HasRegisterRoom new right
room_for_right right o {x = x} wrote room = room_for_first (λ y. write (Binary o x y))
    (room_for_second (λ x. followed_by right (λ y. write (Binary o x y))) wrote room)

-- ---- a piece that is written in part

-- what is left of a piece follows what is written of it
pub record Follows {K : Type 0} (old new : Emitter) (piece left : Env → K → Code) : Type 0 where
  pub same : (k : K) → completed new (left (env_of new) k) ≡ completed old (piece (env_of old) k)

-- ---- registers so far

-- code that is behind some registers gives them before its own
abbrev pub Behind : (List ℕ → Env → Rest (List ℕ) → Code) → (Env → Rest (List ℕ) → Code) → Type 0
Behind after code = (so_far : List ℕ) (env : Env) (k : Rest (List ℕ))
    → after so_far env k ≡ code env (λ e xs. k e (so_far ++ xs))

-- one register more, and those after it
one_behind : (first : Env → Rest ℕ → Code) (after : List ℕ → Env → Rest (List ℕ) → Code)
    (code : Env → Rest (List ℕ) → Code) → Behind after code
    → Behind (λ so_far env k. first env (λ e x. after (so_far ++ x ∷ []) e k))
    (one_before first code)
one_behind first after code behind so_far env k =
    λ i.
    first env (λ e x.
    (behind (so_far ++ x ∷ []) e k
    ∙ (λ j. code e (λ e xs. k e (append_assoc so_far (x ∷ []) xs j)))) i)

-- pieces in turn; those for `left` are still to be written
module _ {X : Type 0} (after : List X → List ℕ → Env → Rest (List ℕ) → Code)
    (code : List X → Env → Rest (List ℕ) → Code)
    (behind : (xs : List X) → Behind (after xs) (code xs))
    {old new : Emitter} (xs left : List X) (so_far : List ℕ)
    (follows : Follows old new (after xs []) (after left so_far)) where
  room_for_left : {l : List X} → left ≡ l → HasRegisterRoom old (code xs)
      → HasRegisterRoom new (after l so_far)
  room_for_left same room = subst (λ l. HasRegisterRoom new (after l so_far)) same
      (room_where room.rest
      (follows.same room.rest ∙ ap (completed old) (behind xs [] (env_of old) room.rest)) room.fits)

  pub all_written : ((env : Env) (k : Rest (List ℕ)) → after [] so_far env k ≡ k env so_far)
      → left ≡ [] → Writes old new (code xs) so_far
  all_written ends none = record {
    same = λ k.
        ap (completed new) (sym (ends (env_of new) k))
        ∙ ap (λ l. completed new (after l so_far (env_of new) k)) (sym none) ∙ follows.same k
        ∙ ap (completed old) (behind xs [] (env_of old) k);
  }

module _ (js : List Join) where
  pub keys_behind : (cs : List ColumnId) → Behind (keys_after js cs) (keys_code js cs)
  keys_behind [] so_far env k = ap (k env) (sym (append-nil so_far))
  keys_behind (c ∷ cs) so_far env k =
      one_behind (column_code js c) (keys_after js cs) (keys_code js cs) (keys_behind cs) so_far env
      k

  number_behind : (f : Fold) (a : Expression ColumnId) (ms : List (Measure ColumnId))
      → Behind (values_after js ms) (values_code js ms)
      → Behind (values_after js (fold f a ∷ ms)) (values_code js (fold f a ∷ ms))
  number_behind f a ms = one_behind (expression_code js a) (values_after js ms) (values_code js ms)

  pub values_behind : (ms : List (Measure ColumnId))
      → Behind (values_after js ms) (values_code js ms)
  values_behind [] so_far env k = ap (k env) (sym (append-nil so_far))
  values_behind (count ∷ ms) so_far env k = values_behind ms so_far env k
  values_behind (fold f a ∷ ms) so_far env k = number_behind f a ms (values_behind ms) so_far env k

  -- the next key
  pub room_for_key : {old new : Emitter} (cs : List ColumnId) {left : List ColumnId} {c : ColumnId}
      {rest : List ColumnId} (so_far : List ℕ) → left ≡ c ∷ rest
      → Follows old new (keys_after js cs []) (keys_after js left so_far)
      → HasRegisterRoom old (keys_code js cs) → HasRegisterRoom new (column_code js c)
  room_for_key cs {left = left} {rest = rest} so_far same follows room =
      room_for_first (λ x. keys_after js rest (so_far ++ x ∷ []))
      (room_for_left (keys_after js) (keys_code js) keys_behind cs left so_far follows same room)

  -- the next number
  pub room_for_value : {old new : Emitter} (ms : List (Measure ColumnId))
      {left : List (Measure ColumnId)} {m : Measure ColumnId}
      {rest : List (Measure ColumnId)} (so_far : List ℕ) → left ≡ m ∷ rest
      → Follows old new (values_after js ms []) (values_after js left so_far)
      → HasRegisterRoom old (values_code js ms) → HasRegisterRoom new (value_after js m so_far)
  room_for_value ms {left = left} {rest = rest} so_far same follows room =
      let here =
      room_for_left (values_after js) (values_code js) values_behind ms left so_far follows same
      room in
      record { rest = λ e rs. values_after js rest rs e here.rest; fits = here.fits }

-- a condition, and a keep of it
pub conjunct_written : (result : Result (Unit {0}) AllocError) (js : List Join) (c : RowCondition)
    {old middle : Emitter} (new : Emitter) {x : ℕ} → Writes old middle (condition_code js c) x
    → IfOk result (λ _. new.steps.items ≡ middle.steps.items ++ Act (Keep x) ∷ [])
    → new.next ≡ middle.next → new.loaded ≡ middle.loaded → new.found ≡ middle.found
    → IfOk result (λ _. Wrote old new (conjunct_code js c))
conjunct_written (Err e) js c new wrote pushed next loaded found = tt
conjunct_written (Ok u) js c {middle = middle} new {x = x} wrote pushed next loaded found =
    record {
      same = λ k.
          act middle new (Keep x) (k (env_of new)) pushed (omega (arith, next))
          ∙ (λ i.
          completed middle
          (Then (Keep x) (k (env (next i) ((ap (λ v. v.items) loaded) i)
          ((ap (λ v. v.items) found) i)))))
          ∙ wrote.same (λ e x. Then (Keep x) (k e));
    }

-- ---- parts have something in them

pub some_operand : (a : Expression ColumnId) → 1 ≤ operands_of a
some_operand (column c) = omega arith
some_operand (constant z) = omega arith
some_operand (add a b) = omega (arith, some_operand a)
some_operand (sub a b) = omega (arith, some_operand a)
some_operand (mul a b) = omega (arith, some_operand a)

pub some_comparison : (c : RowCondition) → 1 ≤ comparisons_of c
some_comparison (or a b) = omega (arith, some_comparison a)
some_comparison (and a b) = omega (arith, some_comparison a)
some_comparison (not a) = omega arith
some_comparison (test (compare c s v)) = omega arith
some_comparison (test (between c a b)) = omega arith
