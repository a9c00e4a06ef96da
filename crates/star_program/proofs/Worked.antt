-- What each instruction does to registers and counts, and when it traps, at the ends of 64 bits and
-- of 128; what programs end with; and what is wrong with a report.
use Rattle.std.{proofs.Common.{◌≡◌, ℕ, ℤ, Bool, true, false, List, [], ◌∷◌, Option, Some, None, pos, negsuc, refl}, specs.Prelude.{◌^◌, codes, map}}
use Rattle.star_common.proofs.Tables.{Gives, Gives2, Gives3}
use Rattle.star_schema.specs.{declared.column.ColumnId.TheVariants.{CRegion, LoQuantity}, declared.group.Aggregate.TheVariants.{Count, Max, Min, Sum}, declared.group.Direction.TheVariants.Ascending, declared.group.Shape.TheVariants.Plain, declared.table.TableId.TheVariants.{Customer, Date, Lineorder}, Schema.column_of}
use Rattle.star_schema.specs.declared.group.GroupColumn.TheVariants as column
use Rattle.star_interval.specs.Range.{is_i64, is_i128}
use Rattle.star_program.specs.declared.group.GroupKey.TheVariants as declared
use Rattle.star_program.specs.declared.key.KeyValue.TheVariants as key
use Rattle.star_program.{specs.declared.op.Edge.TheVariants.{High, Low}, specs.declared.op.Op.TheVariants.{Assign, Keep, Put}, specs.declared.program.Parts.Parts, specs.declared.fault.TrapKind.TrapKind, specs.declared.fault.TrapKind.TheVariants.{Wrong, AbsentKey, Overflow}, specs.declared.value.Value.Value, specs.declared.op.Operation.TheVariants.{Const, Edge, Load, Find, Binary, Within, Not, Read}, specs.declared.op.Operator.TheVariants.{Add, Sub, Mul, Less, LessOrEqual, Equal, And, Or}, specs.declared.fault.Fault.TheVariants.{BadGroup, BadRegister, Misplaced, Unset, WrongKind}, specs.declared.value.Value.TheVariants.{Number, Text, Place, Row, Flag}, specs.Code.{Each, Stop, Then}, specs.Faults.group_at, specs.Private.Doing.fitting, specs.Puts.{Update, overflows, total_over}, specs.ShowLines.shown_fault, specs.Values.{Registers, no_registers, with_entry}, specs.World.World, specs.Effects.{Effect, EndsTurn, GoesOn, State, Traps, act, answer_of, empty_state}, specs.Run.{End, Ended, Limited, Trapped, bounded_run_of, run_of}, proofs.Sample.{sample, great_prices, assign, counting, plain, program, above_average, find_by_quantity, read_while_putting, written_twice, keep_outside, shows_no_key, scan_in_scan, doubled_difference}}

-- ---- what stands in registers

abbrev few : Registers
few = with_entry (with_entry
    (with_entry (with_entry (with_entry no_registers 0 (Number (negsuc 2))) 1 (Text CRegion 4)) 2
    (Place CRegion 5)) 3 (Row Customer 1)) 4 (Flag true)

-- ---- operators

abbrev most : ℤ
most = pos 9223372036854775807

abbrev least : ℤ
least = negsuc 9223372036854775807

abbrev number : ℤ → Option Value
number z = Some (Number z)

abbrev flag : Bool → Option Value
flag b = Some (Flag b)

operators : Gives3 (λ o x y. fitting (answer_of o (number x) (number y)))
    ((Add, pos 2, negsuc 4, number (negsuc 2)) ∷ (Add, most, pos 0, number most)
    ∷ (Add, most, pos 1, None) ∷ (Add, least, negsuc 0, None)
    ∷ (Sub, pos 2, pos 5, number (negsuc 2)) ∷ (Sub, least, pos 0, number least)
    ∷ (Sub, least, pos 1, None) ∷ (Sub, pos 0, least, None)
    ∷ (Mul, pos 3, negsuc 4, number (negsuc 14)) ∷ (Mul, most, pos 1, number most)
    ∷ (Mul, least, negsuc 0, None) ∷ (Less, pos 2, pos 3, flag true)
    ∷ (Less, pos 3, pos 3, flag false) ∷ (Less, pos 3, negsuc 3, flag false)
    ∷ (LessOrEqual, pos 2, pos 3, flag true) ∷ (LessOrEqual, pos 3, pos 3, flag true)
    ∷ (LessOrEqual, pos 3, pos 2, flag false) ∷ (Equal, pos 3, pos 3, flag true)
    ∷ (Equal, pos 2, pos 3, flag false) ∷ (Equal, pos 3, pos 2, flag false) ∷ [])
    × Gives3 (λ o p q. fitting (answer_of o (flag p) (flag q)))
    ((And, true, true, flag true) ∷ (And, true, false, flag false) ∷ (And, false, true, flag false)
    ∷ (Or, false, false, flag false) ∷ (Or, true, false, flag true) ∷ (Or, false, true, flag true)
    ∷ [])
unfolding is_i64
operators = (refl, refl)

-- ---- instructions

-- the texts before `ASIA` are two, up to it three; each region has code 4, and each key is found in
-- row 2
abbrev regions : World
regions = record sample { low = λ c t. 2; high = λ c t. 3; code = λ c row. 4; find = λ t z. Some 2 }

abbrev parts : Parts
parts = record {
  registers = 7;
  groups =
      record { shape = Plain; keys = declared.Number ∷ []; aggregates = Count ∷ Sum ∷ Max ∷ [] }
      ∷ plain (Count ∷ []) ∷ [];
  body = Stop;
  report = 0;
  shows = [];
  sorts = [];
}

-- its trap, or what it leaves in the last register and the counts; nothing where the turn ends
abbrev Seen : Type 0
Seen = Option TrapKind × Option Value × List ℕ

abbrev seen : Effect → Seen
seen (GoesOn regs s) = (None, regs 6, s.visits ∷ s.lookups ∷ s.updates ∷ [])
seen (EndsTurn s) = (None, None, [])
seen (Traps trap) = (Some trap, None, [])

abbrev makes : Option Value → Seen
makes v = (None, v, 0 ∷ 0 ∷ 0 ∷ [])

abbrev trapped : TrapKind → Seen
trapped trap = (Some trap, None, [])

abbrev none_kept : Registers
none_kept = with_entry few 4 (Flag false)

-- the lower end belongs to a range, the upper one doesn't; over no updates a COUNT is 0, and any
-- other aggregate what the read gives; and what is wrong with a read comes before what it gives
instructions : Gives3 (λ w regs op. seen (act w parts true regs empty_state op)) (
    (regions, few, Assign 6 (Const most), makes (number most))
    ∷ (regions, few, Assign 6 (Edge Low CRegion (codes "ASIA")), makes (Some (Place CRegion 2)))
    ∷ (regions, few, Assign 6 (Edge High CRegion (codes "ASIA")), makes (Some (Place CRegion 3)))
    ∷ (regions, few, Assign 6 (Load CRegion 3), makes (Some (Text CRegion 4)))
    ∷ (regions, few, Assign 6 (Find Customer 0), (None, Some (Row Customer 2), 0 ∷ 1 ∷ 0 ∷ []))
    ∷ (sample, few, Assign 6 (Find Customer 0), trapped AbsentKey)
    ∷ (sample, few, Assign 6 (Find Date 4), trapped (Wrong WrongKind))
    ∷ (regions, few, Assign 6 (Within 1 1 2), makes (flag true))
    ∷ (regions, few, Assign 6 (Within 2 1 2), makes (flag false))
    ∷ (regions, few, Assign 6 (Within 1 2 2), makes (flag false))
    ∷ (regions, few, Assign 6 (Not 4), makes (flag false))
    ∷ (regions, with_entry few 5 (Number most), Assign 6 (Binary Sub 5 0), trapped Overflow)
    ∷ (regions, few, Assign 6 (Not 5), trapped (Wrong Unset))
    ∷ (regions, few, Keep 4, makes None)
    ∷ (regions, none_kept, Keep 4, (None, None, []))
    ∷ (regions, few, Assign 6 (Read 0 0 (pos 7)), makes (number (pos 0)))
    ∷ (regions, few, Assign 6 (Read 0 1 (pos 7)), makes (number (pos 7)))
    ∷ (regions, few, Assign 6 (Read 0 2 (pos 7)), makes (number (pos 7)))
    ∷ (regions, few, Assign 6 (Read 0 1 (pos (2 ^ 63))), trapped Overflow)
    ∷ (regions, few, Assign 6 (Read 0 3 (pos (2 ^ 63))), trapped (Wrong BadGroup))
    ∷ [])
    × (act sample parts false none_kept empty_state (Keep 4) ≡ Traps (Wrong Misplaced))
unfolding column_of is_i64
instructions = (refl, refl)

abbrev an_update : Update
an_update = record { keys = key.Number (negsuc 2) ∷ []; values = pos 1 ∷ negsuc 2 ∷ negsuc 2 ∷ [] }

-- a store with one update of each group, of this number for its SUM
abbrev put_of : ℤ → State
put_of z = record empty_state {
  updates_of = λ g. record { keys = key.Number (negsuc 2) ∷ []; values = pos 1 ∷ z ∷ pos 0 ∷ [] }
      ∷ [];
}

abbrev a_put : State → Effect
a_put s = act regions parts true few s (Put 0 (0 ∷ []) (0 ∷ 0 ∷ []))

abbrev updates : ℕ → Effect → List Update
updates g (GoesOn regs s) = s.updates_of g
updates g _ = []

-- a SUM traps where it would leave 128 bits, and not where it leaves 64
puts : (seen (a_put empty_state) ≡ (None, None, 0 ∷ 0 ∷ 1 ∷ []))
    × Gives (λ g. updates g (a_put empty_state)) ((0, an_update ∷ []) ∷ (1, []) ∷ [])
    × Gives (λ z. seen (a_put (put_of z))) (
    (negsuc 170141183460469231731687303715884105727, trapped Overflow)
    ∷ (least, (None, None, 0 ∷ 0 ∷ 1 ∷ [])) ∷ [])
unfolding is_i64 is_i128
puts = (refl, refl, refl)

-- a read gives the total, and traps where that leaves 64 bits; its default counts where there is
-- none, and there alone
reads : Gives3 (λ s a d. seen (act regions parts true few s (Assign 6 (Read 0 a d))))
    ((put_of (negsuc 2), 0, pos (2 ^ 63), makes (number (pos 1)))
    ∷ (put_of (negsuc 2), 1, pos (2 ^ 63), makes (number (negsuc 2)))
    ∷ (put_of (negsuc 2), 2, pos (2 ^ 63), makes (number (pos 0)))
    ∷ (put_of most, 1, pos 0, makes (number most)) ∷ (put_of least, 1, pos 0, makes (number least))
    ∷ (put_of (pos 9223372036854775808), 1, pos 0, trapped Overflow)
    ∷ (put_of (negsuc 9223372036854775808), 1, pos 0, trapped Overflow) ∷ [])
unfolding is_i64
reads = refl

-- ---- puts

abbrev one : ℤ → ℤ → ℤ → Update
one k lower summed = record { keys = key.Number k ∷ []; values = lower ∷ summed ∷ [] }

abbrev most_sum : ℤ
most_sum = pos 170141183460469231731687303715884105727

abbrev least_sum : ℤ
least_sum = negsuc 170141183460469231731687303715884105727

-- only a SUM or a COUNT leaves its bits, over its own group or over all updates; a SUM may leave 64
overflowing : Gives2 (overflows Plain (Min ∷ Sum ∷ []))
    (([], one (pos 1) least_sum most_sum, false)
    ∷ (one (pos 1) most_sum (pos 1) ∷ [], one (pos 1) most_sum (negsuc 0), false)
    ∷ (one (pos 1) (pos 0) most_sum ∷ [], one (pos 1) (pos 0) (pos 1), true)
    ∷ (one (pos 2) (pos 0) least_sum ∷ [], one (pos 1) (pos 0) (negsuc 0), true)
    ∷ (one (pos 1) (pos 0) most ∷ [], one (pos 1) (pos 0) (pos 1), false)
    ∷ (
      one (pos 2) (pos 0) (negsuc 0) ∷ one (pos 1) (pos 0) most_sum
          ∷ [],
      one (pos 1) (pos 0) (pos 1),
      true,
    ) ∷ [])
unfolding is_i128
overflowing = refl

-- ---- what a report names

abbrev reporting : ℕ → List ℕ → List ℕ → Parts
reporting g shows sorts = record parts {
  report = g;
  shows = map (λ index. record { name = codes "n"; column = column.Aggregate index }) shows;
  sorts = map (λ index. record { column = column.Key index; direction = Ascending }) sorts;
}

-- sort lines follow the show lines
report_lines : Gives3 (λ g shows sorts. shown_fault (reporting g shows sorts)) (
    (0, 0 ∷ 2 ∷ [], 0 ∷ [], None) ∷ (0, 0 ∷ [], [], None) ∷ (2, 0 ∷ [], [], Some 0)
    ∷ (0, [], [], Some 0) ∷ (0, 0 ∷ 3 ∷ [], 1 ∷ [], Some 2) ∷ (0, 0 ∷ 2 ∷ [], 0 ∷ 1 ∷ [], Some 4)
    ∷ [])
report_lines = refl

-- ---- what programs end with

-- the three counts, and the first aggregate over all updates of the reported group; the number of
-- the instruction that trapped, and its trap; or no more visits
abbrev ended : Parts → End → List (Option ℤ) × Option (ℕ × TrapKind)
ended p (Ended s) = (
  Some (pos s.visits) ∷ Some (pos s.lookups) ∷ Some (pos s.updates)
      ∷ total_over (group_at p p.report).aggregates 0 (s.updates_of p.report) ∷ [],
  None,
)
ended p (Trapped at trap) = ([], Some (at, trap))
ended p Limited = ([], None)

abbrev ends : ℕ → ℕ → ℕ → List (Option ℤ) × Option (ℕ × TrapKind)
ends visits updates total =
    (Some (pos visits) ∷ Some (pos 0) ∷ Some (pos updates) ∷ Some (pos total) ∷ [], None)

-- a scan begins with the first row: 10, 30, 24, 50 and 1 add up
abbrev quantities : Parts
quantities = program 3 (plain (Sum ∷ []) ∷ []) 0
    (Each Lineorder 0 (assign 1 (Load LoQuantity 0) (Then (Put 0 [] (1 ∷ [])) Stop)) Stop)

-- what is written twice holds what was written last; a scan in a scan counts each time that it is
-- met; of three registers the last may be a scan's, and the next traps also over no rows
runs : Gives2 (λ w p. ended p (run_of w p))
    ((sample, above_average, ends 10 7 2) ∷ (sample, find_by_quantity, ([], Some (3, AbsentKey)))
    ∷ (sample, written_twice, ends 0 1 2) ∷ (sample, keep_outside, ([], Some (3, Wrong Misplaced)))
    ∷ (sample, scan_in_scan, ends 9 6 6)
    ∷ (great_prices, doubled_difference, ([], Some (12, Overflow)))
    ∷ (sample, quantities, ends 5 5 115)
    ∷ (great_prices, counting (Each Date 2 Stop Stop), ends 0 0 0)
    ∷ (great_prices, counting (Each Date 3 Stop Stop), ([], Some (1, Wrong BadRegister))) ∷ [])
unfolding column_of is_i64 is_i128
runs = refl

-- as many turns may begin as are allowed, and no more
bounded_runs : Gives2 (λ most p. ended p (bounded_run_of sample most p))
    ((9, above_average, ([], None)) ∷ (10, above_average, ends 10 7 2)
    ∷ (5, read_while_putting, ends 5 5 5) ∷ (0, shows_no_key, ([], Some (0, Wrong BadGroup))) ∷ [])
unfolding column_of is_i64 is_i128
bounded_runs = refl
