-- Register facts: the kind of a register, and the range of a number.
use Rattle.std.specs.{Prelude.{ℕ, ℤ, pos, ◌+ℤ◌, ◌-ℤ◌, ◌*ℤ◌, Bool, true, false, ◌||◌, Option, Some, None}, Option.option_map}
use Rattle.star_schema.specs.{declared.table.TableId.TableId, declared.column.ColumnId.ColumnId}
use Rattle.star_interval.specs.Range.{Range, only, corner_range}
use Rattle.star_program.specs.{declared.op.Operator.Operator, declared.op.Operator.TheVariants.Add, declared.op.Operator.TheVariants.Sub, declared.op.Operator.TheVariants.Mul, declared.value.Kind.Kind, World.World, World.is_column, Faults.Kinds}
use Rattle.star_program.specs.declared.value.Kind.TheVariants as kind
use Rattle.star_program.specs.declared.value.Kind.TheVariants as kind

-- the columns that a number is computed from
abbrev pub Reach : Type 0
Reach = ColumnId → Bool

abbrev pub no_reach : Reach
no_reach c = false

abbrev pub joined_reach : Reach → Reach → Reach
joined_reach a b c = a c || b c

-- a number's range, the columns that it is computed from, and the column that it was loaded from,
-- if any
pub data Known : Type 0 where
  KnownNumber : Range → Reach → Option ColumnId → Known
  KnownText : ColumnId → Known
  KnownPlace : ColumnId → Known
  KnownRow : TableId → Known
  KnownFlag : Known

abbrev pub known_kind : Known → Kind
known_kind (KnownNumber r reach origin) = kind.Number
known_kind (KnownText c) = kind.Text c
known_kind (KnownPlace c) = kind.Place c
known_kind (KnownRow t) = kind.Row t
known_kind KnownFlag = kind.Flag

-- the facts of the registers in scope, by number
abbrev pub AllKnown : Type 0
AllKnown = ℕ → Option Known

abbrev pub kinds_known : AllKnown → Kinds
kinds_known known r = option_map known_kind (known r)

abbrev pub range_at : Option Known → Range
range_at (Some (KnownNumber r reach origin)) = r
range_at _ = only (pos 0)

abbrev pub reach_at : Option Known → Reach
reach_at (Some (KnownNumber r reach origin)) = reach
reach_at _ = no_reach

abbrev pub origin_at : Option Known → Option ColumnId
origin_at (Some (KnownNumber r reach origin)) = origin
origin_at _ = None

-- ---- the result of an instruction

-- a constant, or the result of a read: computed from no column
abbrev pub known_number : Range → Known
known_number r = KnownNumber r no_reach None

-- a column's value: a number has the column's bounds
abbrev pub loaded_known : World → ColumnId → Bool → Known
loaded_known w c true = KnownText c
loaded_known w c false = KnownNumber (w.bounds c) (is_column c) (Some c)

-- a result of arithmetic: the least and the greatest result over the ends of the operands' ranges
abbrev pub known_arithmetic : (ℤ → ℤ → ℤ) → Option Known → Option Known → Known
known_arithmetic operation l r = KnownNumber (corner_range operation (range_at l) (range_at r)) (joined_reach (reach_at l) (reach_at r)) None

-- the result of an operator
abbrev pub answer_known : Operator → Option Known → Option Known → Known
answer_known Add l r = known_arithmetic ◌+ℤ◌ l r
answer_known Sub l r = known_arithmetic ◌-ℤ◌ l r
answer_known Mul l r = known_arithmetic ◌*ℤ◌ l r
answer_known _ l r = KnownFlag
