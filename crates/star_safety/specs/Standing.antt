-- The instructions of a program by number, each in its context, with the reason to refuse it there;
-- also the end of each body.
use Rattle.std.specs.{Prelude.{ℕ, ◌+◌, Bool, false, ◌&&◌, ◌||◌, nat_eq, nat_lt, List, [], ◌∷◌, ◌++◌, Option, Some, None}, List.list_any}
use Rattle.star_schema.specs.declared.table.TableId.{TableId}
use Rattle.star_program.specs.{Code.{Code, Stop, Then, Each, code_size}, declared.op.Op.Op, declared.op.Op.TheVariants.Put, declared.program.Parts.Parts, World.World}
use Rattle.star_safety.specs.{Contexts.{Context, at_first, after_op, in_scan, after_scan, at_end}, declared.reason.Reason.Reason, Refusals.{op_reason, scan_reason}}

pub data CodeItem : Type 0 where
  -- a scan of a table into a register
  Scan : TableId → ℕ → CodeItem
  -- an instruction of another kind
  Act : Op → CodeItem
  -- the end of a scan's body or of the program: not an instruction, and without a number of its own
  BodyEnd : CodeItem

-- an enclosing scan
pub record Enclosing : Type 0 where
  pub number : ℕ
  pub table : TableId

pub record Standing : Type 0 where
  -- its number; at an end the number of the next instruction
  pub number : ℕ
  -- the enclosing scans, innermost first
  pub round : List Enclosing
  pub context : Context
  pub item : CodeItem

-- the instructions of some code, each body with its end
abbrev pub standing : World → Parts → List Enclosing → Context → ℕ → Code → List Standing
standing w parts round x at Stop =
    record { number = at; round = round; context = x; item = BodyEnd } ∷ []
standing w parts round x at (Then op rest) =
    record { number = at; round = round; context = x; item = Act op }
    ∷ standing w parts round (after_op w parts x op) (at + 1) rest
standing w parts round x at (Each table r body rest) =
    let inner = in_scan w x table r in
    record { number = at; round = round; context = x; item = Scan table r }
    ∷ (standing w parts (record { number = at; table = table } ∷ round) inner (at + 1) body
    ++ standing w parts round (after_scan x (at_end w parts inner body))
    (at + 1 + code_size body) rest)

abbrev pub instructions_of : World → Parts → List Standing
instructions_of w parts = standing w parts [] at_first 1 parts.body

-- ---- scans

-- a scan with this number is among them
abbrev pub has_scan : List Enclosing → ℕ → Bool
has_scan scans n = list_any (λ s. nat_eq s.number n) scans

-- it is inside one of these scans
abbrev pub in_one_of : List Enclosing → Standing → Bool
in_one_of scans i = list_any (λ s. has_scan scans s.number) i.round

-- ---- refusals

abbrev pub op_puts_to : ℕ → Op → Bool
op_puts_to h (Put g ks vs) = nat_eq h g
op_puts_to h _ = false

abbrev item_puts_to : ℕ → CodeItem → Bool
item_puts_to g (Act op) = op_puts_to g op
item_puts_to g _ = false

abbrev pub puts_to : ℕ → Standing → Bool
puts_to g i = item_puts_to g i.item

-- some instruction puts to the group, and comes later or is in a scan that encloses this one
abbrev pub is_open : List Standing → Standing → ℕ → Bool
is_open all i g =
    list_any (λ j. puts_to g j && (nat_lt i.number j.number || in_one_of i.round j)) all

abbrev pub item_reason : World → Parts → (ℕ → Bool) → Context → CodeItem → Option Reason
item_reason w parts pending x (Act op) = op_reason w parts pending x op
item_reason w parts pending x (Scan table r) = scan_reason parts x r
item_reason w parts pending x BodyEnd = None

abbrev pub at_position : {A : Type 0} → ℕ → Option A → Option (ℕ × A)
at_position at None = None
at_position at (Some reason) = Some (at, reason)

-- the reason to refuse it among all instructions, if there is one, with its number
abbrev pub reason_among : World → Parts → List Standing → Standing → Option (ℕ × Reason)
reason_among w parts all i =
    at_position i.number (item_reason w parts (is_open all i) i.context i.item)

abbrev pub reason_of : World → Parts → Standing → Option (ℕ × Reason)
reason_of w parts i = reason_among w parts (instructions_of w parts) i
