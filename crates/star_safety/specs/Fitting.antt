-- Registers that agree with their facts.
use Rattle.std.specs.Prelude.{◌≡◌, ℕ, ◌≤◌, ◌<◌, ℤ, Option, Some, None}
use Rattle.star_schema.specs.{declared.column.ColumnId.ColumnId, Schema.table_of}
use Rattle.star_interval.specs.Range.{Holds}
use Rattle.star_program.specs.{declared.value.Value.TheVariants.{Number, Text, Place, Row, Flag}, World.World, Values.Registers, declared.value.Value.Value}
use Rattle.star_safety.specs.Ranges.{Known, KnownNumber, KnownText, KnownPlace, KnownRow, KnownFlag, AllKnown}

-- the column has the number in some row, if the number was loaded from a column
abbrev pub FromColumn : World → Option ColumnId → ℤ → Type 0
FromColumn w None z = Unit {0}
FromColumn w (Some c) z = (row : ℕ) × (row < w.size (table_of c)) × (z ≡ w.number c row)

-- the value is of the known kind: a number in its range, the code of a text of its column, a
-- position among them, a row of its table
abbrev pub FitsValue : World → Known → Value → Type 0
FitsValue w (KnownNumber r reach origin) (Number z) = Holds r z × FromColumn w origin z
FitsValue w (KnownText c) (Text d n) = (c ≡ d) × (n < w.entries c)
FitsValue w (KnownPlace c) (Place d n) = (c ≡ d) × (n ≤ w.entries c)
FitsValue w (KnownRow t) (Row s n) = (t ≡ s) × (n < w.size t)
FitsValue w KnownFlag (Flag b) = Unit {0}
FitsValue w _ _ = ⊥

-- a register without facts has no value
abbrev pub FitsAt : World → Option Known → Option Value → Type 0
FitsAt w None None = Unit {0}
FitsAt w (Some k) (Some v) = FitsValue w k v
FitsAt w _ _ = ⊥

abbrev pub Agrees : World → AllKnown → Registers → Type 0
Agrees w known regs = (r : ℕ) → FitsAt w (known r) (regs r)
