-- Numbers of 64 bits in a program, and bounds of 64 bits of its columns.
use Rattle.std.specs.{Prelude.◌≡◌, Prelude.FitsSigned, Prelude.false, Int.w64}
use Rattle.star_schema.specs.declared.column.ColumnId.{ColumnId}
use Rattle.star_interval.specs.Range.{FitsI64}
use Rattle.star_program.specs.{declared.op.Op.Op, declared.op.Op.TheVariants.Assign, declared.op.Operation.TheVariants.Const, declared.op.Operation.TheVariants.Read, declared.program.Parts.Parts, Code.Code, Code.Stop, Code.Then, Code.Each, World.World, World.is_text}

-- a constant, or the default of a read, has 64 bits
abbrev pub NamesI64 : Op → Type 0
NamesI64 (Assign t (Const n)) = FitsSigned w64 n
NamesI64 (Assign t (Read g a n)) = FitsSigned w64 n
NamesI64 op = Unit {0}

abbrev pub AllNameI64 : Code → Type 0
AllNameI64 Stop = Unit {0}
AllNameI64 (Then op rest) = NamesI64 op × AllNameI64 rest
AllNameI64 (Each table r body rest) = AllNameI64 body × AllNameI64 rest

-- the constants of a program and the bounds of numeric columns have 64 bits
pub record AreI64 (w : World) (parts : Parts) : Type 0 where
  pub named : AllNameI64 parts.body
  pub bounds : (c : ColumnId) → is_text c ≡ false → FitsI64 (w.bounds c)
