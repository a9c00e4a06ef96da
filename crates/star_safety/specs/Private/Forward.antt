-- The first refusal of a program, found by one pass over its code.
use Rattle.std.specs.{Prelude.{ℕ, ◌+◌, Bool, false, ◌||◌, Option, None}, Option.option_or}
use Rattle.star_program.specs.{Code.{Code, Stop, Then, Each, code_size}, declared.program.Parts.Parts, World.World}
use Rattle.star_safety.specs.{Contexts.{Context, after_op, in_scan, after_scan, at_end}, declared.reason.Reason.Reason, Refusals.{op_reason, scan_reason}, Standing.{op_puts_to, at_position}}

-- the code puts to a group
abbrev pub code_puts_to : ℕ → Code → Bool
code_puts_to g Stop = false
code_puts_to g (Then op rest) = op_puts_to g op || code_puts_to g rest
code_puts_to g (Each table r body rest) = code_puts_to g body || code_puts_to g rest

-- some code puts to the group, or the group was pending already
abbrev pub open_with : (ℕ → Bool) → Code → ℕ → Bool
open_with pending code g = pending g || code_puts_to g code

abbrev pub none_open : ℕ → Bool
none_open g = false

-- the first refused instruction of some code, with its reason; these groups are put to after it or
-- in an enclosing scan, and instructions are numbered from here on
abbrev pub first_reason : World → Parts → (ℕ → Bool) → Context → ℕ → Code → Option (ℕ × Reason)
first_reason w parts pending x at Stop = None
first_reason w parts pending x at (Then op rest) =
    option_or (at_position at (op_reason w parts (open_with pending rest) x op))
    (first_reason w parts pending (after_op w parts x op) (at + 1) rest)
first_reason w parts pending x at (Each table r body rest) =
    let inner = in_scan w x table r in
    let inside = open_with pending (Each table r body rest) in
    let later = after_scan x (at_end w parts inner body) in
    option_or (at_position at (scan_reason parts x r))
    (option_or (first_reason w parts inside inner (at + 1) body)
    (first_reason w parts pending later (at + 1 + code_size body) rest))
