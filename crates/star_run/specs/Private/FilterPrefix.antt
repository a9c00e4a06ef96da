-- The pushed-down filters of a body: the keeps among its first instructions, as long as these only
-- write registers. A turn ends early if the flag of one of them is false.
use Rattle.std.specs.Prelude.{ℕ, zero, suc, ◌+◌, Bool, true, false, ◌&&◌, Option, Some, None, if◌then◌else◌}
use Rattle.star_program.specs.{declared.op.Op.Op, declared.op.Op.TheVariants.{Assign, Keep}, declared.op.Operation.Operation, declared.op.Operation.TheVariants.{Find, Read}, declared.program.Parts.Parts, Code.{Code, Then}, Effects.{State, empty_state, next_registers}, Values.{Registers, flag_read}, World.World}

-- ---- a turn

-- how many look-ups an operation is
abbrev pub looks : Operation → ℕ
looks (Find table k) = 1
looks _ = 0

-- whether the result of an operation depends on the registers and the tables only, and on no group
abbrev pub reads_no_total : Operation → Bool
reads_no_total (Read g a n) = false
reads_no_total _ = true

-- how many look-ups a turn has, `looked` of them already done, if it ends at a keep among
-- its first n instructions, if it does
abbrev pub early : World → Parts → ℕ → Code → ℕ → Registers → Option ℕ
early w parts zero code looked regs = None
early w parts (suc n) (Then (Keep f) rest) looked regs =
    if flag_read (regs f) then early w parts n rest looked regs else Some looked
early w parts (suc n) (Then (Assign t o) rest) looked regs =
    if reads_no_total o
    then early w parts n rest (looked + looks o)
    (next_registers w parts regs empty_state (Assign t o))
    else None
early w parts (suc n) _ looked regs = None

-- ---- the code after the first n instructions

-- these only keep, or write registers by registers only
abbrev pub is_prefix : ℕ → Code → Bool
is_prefix zero code = true
is_prefix (suc n) (Then (Keep f) rest) = is_prefix n rest
is_prefix (suc n) (Then (Assign t o) rest) = reads_no_total o && is_prefix n rest
is_prefix (suc n) _ = false

abbrev pub code_after : ℕ → Code → Code
code_after zero code = code
code_after (suc n) (Then op rest) = code_after n rest
code_after (suc n) code = code

-- the registers there, if each keep lets the turn go on
abbrev pub registers_after : World → Parts → ℕ → Code → Registers → Registers
registers_after w parts zero code regs = regs
registers_after w parts (suc n) (Then op rest) regs =
    registers_after w parts n rest (next_registers w parts regs empty_state op)
registers_after w parts (suc n) code regs = regs

-- how many look-ups there are before it
abbrev pub op_looks : Op → ℕ
op_looks (Assign t o) = looks o
op_looks _ = 0

abbrev pub looks_before : ℕ → Code → ℕ
looks_before zero code = 0
looks_before (suc n) (Then op rest) = op_looks op + looks_before n rest
looks_before (suc n) code = 0

-- ---- the content of the store

-- with some look-ups more
abbrev pub looked_up : ℕ → State → State
looked_up lookups s = record s { lookups = s.lookups + lookups }

-- with some turns and look-ups more
abbrev pub shifted : ℕ → ℕ → State → State
shifted visits lookups s =
    record s { visits = s.visits + visits; lookups = s.lookups + lookups }

-- ---- turns that end early, if it is known row by row

-- how many look-ups there are in the turns, from a row on, that end early
abbrev pub looks_early : Option ℕ → ℕ
looks_early None = 0
looks_early (Some lookups) = lookups

abbrev pub early_looks : (ℕ → Option ℕ) → ℕ → ℕ → ℕ
early_looks ends zero row = 0
early_looks ends (suc count) row = looks_early (ends row) + early_looks ends count (row + 1)
