-- The reason to refuse an instruction in its context (interval analysis: Moore, Interval Analysis,
-- 1966).
use Rattle.std.specs.{Prelude.{ℕ, Bool, true, false, not, nat_lt, List, filter, map, Option, Some, None}, Option.{option_map, option_or}}
use Rattle.star_schema.specs.{declared.table.TableId.TableId, declared.column.ColumnId.ColumnId, declared.column.TheConstants.COLUMNS, Schema.is_table, Schema.references}
use Rattle.star_interval.specs.Range.{Range, fits_i64, only}
use Rattle.star_program.specs.{declared.op.Op.Op, declared.op.Op.TheVariants.Assign, declared.op.Operation.TheVariants.{Find, Read}, declared.program.Parts.Parts, declared.fault.Fault.Fault, declared.fault.Fault.TheVariants.{BadRegister, WrittenTwice}, World.World, Faults.{unless, target_of, fault_of}}
use Rattle.star_safety.specs.{Ranges.{Reach, Known, KnownNumber, origin_at, kinds_known}, Tallies.{reach_of, read_range}, Contexts.{Context, aggregate_in_group, result_known}, declared.reason.Reached.Reached, declared.reason.Reason.Reason, declared.reason.Reason.TheVariants.{Faulty, NotAForeignKey, OpenGroup, Overflow}}

abbrev pub refuses : Bool → Reason → Option Reason
refuses true reason = Some reason
refuses false reason = None

-- ---- look-ups and reads

abbrev pub is_some_table : TableId → Option TableId → Bool
is_some_table t None = false
is_some_table t (Some s) = is_table t s

-- a foreign key to the table
abbrev pub refers_to : TableId → Option ColumnId → Bool
refers_to t None = false
refers_to t (Some c) = is_some_table t (references c)

-- ---- ranges

-- a column with its bounds
abbrev pub with_bounds : World → ColumnId → Reached
with_bounds w c = record { column = c; low = (w.bounds c).low; high = (w.bounds c).high }

-- the columns of a set, in order
unfoldable pub reached : World → Reach → List Reached
reached w reach = map (with_bounds w) (filter reach COLUMNS)

-- a range leaves 64 bits
abbrev pub overflow : World → Range → Reach → Option Reason
overflow w r reach = refuses (not (fits_i64 r)) (Overflow r.low r.high (reached w reach))

abbrev pub overflow_of : World → Known → Option Reason
overflow_of w (KnownNumber r reach origin) = overflow w r reach
overflow_of w _ = None

-- ---- an instruction

-- a target that an earlier instruction writes
abbrev pub target_again : (ℕ → Bool) → Option ℕ → Option Fault
target_again written None = None
target_again written (Some t) = unless (not (written t)) WrittenTwice

-- by its kinds
abbrev pub kind_reason : Parts → Context → Op → Option Reason
kind_reason parts x op =
    option_map Faulty
    (fault_of parts x.inside (target_again x.written (target_of op)) (kinds_known x.known) op)

-- by the source of a find or a read; `pending` are the groups that are still put to
abbrev pub source_reason : (ℕ → Bool) → Context → Op → Option Reason
source_reason pending x (Assign t (Find table k)) =
    refuses (not (refers_to table (origin_at (x.known k)))) NotAForeignKey
source_reason pending x (Assign t (Read g a n)) = refuses (pending g) OpenGroup
source_reason pending x _ = None

-- by the range of its result; for a read with the columns of the numbers that are put for its
-- aggregate
abbrev pub range_reason : World → Parts → Context → Op → Option Reason
range_reason w parts x (Assign t (Read g a n)) =
    overflow w (read_range (aggregate_in_group parts g a) (x.so_far g a) (only n))
    (reach_of (x.so_far g a))
range_reason w parts x op = overflow_of w (result_known w parts x op)

-- the first of these
abbrev pub op_reason : World → Parts → (ℕ → Bool) → Context → Op → Option Reason
op_reason w parts pending x op =
    option_or (kind_reason parts x op)
    (option_or (source_reason pending x op) (range_reason w parts x op))

-- for a scan only by its target
abbrev pub scan_reason : Parts → Context → ℕ → Option Reason
scan_reason parts x r =
    option_map Faulty
    (option_or (unless (nat_lt r parts.registers) BadRegister)
    (unless (not (x.written r)) WrittenTwice))
