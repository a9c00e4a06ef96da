-- Which number of a query's program is the first that may leave 64 bits, by the bounds of the
-- columns only (interval analysis: Moore, Interval Analysis, 1966).
use Rattle.std.specs.Prelude.{ℕ, ℤ, pos, ◌+◌, ◌+ℤ◌, ◌-ℤ◌, ◌*ℤ◌, Bool, false, ◌||◌, nat_eq, filter, map, Option, Some, None, if◌then◌else◌}
use Rattle.star_schema.specs.declared.column.{ColumnId.ColumnId, TheConstants.COLUMNS}
use Rattle.star_interval.specs.Range.{Range, corner_range, fits_i64, only}
use Rattle.star_plan.specs.Meaning.{Plan}
use Rattle.star_program.specs.{declared.op.Op.TheVariants.Assign, declared.op.Operation.Operation, declared.op.Operation.TheVariants.{Binary, Const, Load}, declared.op.Operator.TheVariants.{Add, Mul, Sub}, Code.{Code, Then}, World.{is_column, is_text}}
use Rattle.star_safety.specs.declared.reason.Reason.{Reason, TheVariants.Overflow}
use Rattle.star_compile_laws.specs.Compiled.{turn_code}

-- what is known of a number: its range, and the columns that it is computed from
pub record Computed : Type 0 where
  pub range : Range
  pub columns : ColumnId → Bool

-- of no column; likewise a value that is no number, which counts as 0
abbrev pub given : ℤ → Computed
given z = record { range = only z; columns = λ c. false }

-- by arithmetic, of two numbers
abbrev pub together : (ℤ → ℤ → ℤ) → Computed → Computed → Computed
together f a b =
    record { range = corner_range f a.range b.range; columns = λ c. a.columns c || b.columns c }

-- by an operation, from the facts about the registers
abbrev pub computed : (ColumnId → Range) → (ℕ → Computed) → Operation → Computed
computed bounds known (Const z) = given z
computed bounds known (Load c row) =
    if is_text c then given (pos 0) else record { range = bounds c; columns = is_column c }
computed bounds known (Binary Add l r) = together ◌+ℤ◌ (known l) (known r)
computed bounds known (Binary Sub l r) = together ◌-ℤ◌ (known l) (known r)
computed bounds known (Binary Mul l r) = together ◌*ℤ◌ (known l) (known r)
computed bounds known _ = given (pos 0)

-- its range is too wide; the columns are in their order, each with its bounds
abbrev pub too_wide : (ColumnId → Range) → Computed → Reason
too_wide bounds n =
    Overflow n.range.low n.range.high
    (map (λ c. record { column = c; low = (bounds c).low; high = (bounds c).high })
    (filter n.columns COLUMNS))

-- the first number of a turn whose range leaves 64 bits, by its instruction's number
abbrev pub first_wide : (ColumnId → Range) → (ℕ → Computed) → ℕ → Code → Option (ℕ × Reason)
first_wide bounds known at (Then (Assign t o) rest) =
    let n = computed bounds known o in
    if fits_i64 n.range
    then first_wide bounds (λ r. if nat_eq r t then n else known r) (at + 1) rest
    else Some (at, too_wide bounds n)
first_wide bounds known at (Then op rest) = first_wide bounds known (at + 1) rest
first_wide bounds known at _ = None

-- the scan is instruction 1, and its turn begins with the next
abbrev pub turn_wide : (ColumnId → Range) → Plan → Option (ℕ × Reason)
turn_wide bounds p = first_wide bounds (λ r. given (pos 0)) 2 (turn_code p)
