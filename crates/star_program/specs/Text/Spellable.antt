-- Programs that some text spells.
use Rattle.std.specs.{Prelude.{◌≡◌, ◌≤◌, ℕ, List, All, true}, List.list_all}
use Rattle.star_common.specs.Printable.{is_printable}
use Rattle.star_interval.specs.Range.{is_i64}
use Rattle.star_schema.specs.declared.group.GroupColumn.{GroupColumn}
use Rattle.star_schema.specs.declared.group.GroupColumn.TheVariants as column
use Rattle.star_program.specs.{World.is_text, Text.Numerals.is_show_name, Text.Spelling.{Spells, program_statements}, Text.Written.program_text, declared.group.GroupKey.GroupKey, declared.op.Op.Op, declared.op.Operation.Operation, declared.program.Parts.Parts, declared.spelling.statement.Statement.Statement}
use Rattle.star_program.specs.declared.group.GroupKey.TheVariants as key
use Rattle.star_program.specs.declared.op.Op.TheVariants as op
use Rattle.star_program.specs.declared.op.Operation.TheVariants as operation
use Rattle.star_program.specs.declared.spelling.statement.Statement.TheVariants as says

-- a register number, a count or an index has at most four digits
abbrev pub HasFourDigits : ℕ → Type 0
HasFourDigits n = n ≤ 9999

-- a text has only printable bytes
abbrev pub IsPrinted : List ℕ → Type 0
IsPrinted text = list_all is_printable text ≡ true

abbrev pub IsShortColumn : GroupColumn → Type 0
IsShortColumn (column.Key k) = HasFourDigits k
IsShortColumn (column.Aggregate a) = HasFourDigits a

-- a key of a group is a number or belongs to a text column
abbrev pub IsKey : GroupKey → Type 0
IsKey key.Number = Unit {0}
IsKey (key.Text c) = is_text c ≡ true

abbrev pub IsSpellableOperation : Operation → Type 0
IsSpellableOperation (operation.Const n) = is_i64 n ≡ true
IsSpellableOperation (operation.Edge e c text) = IsPrinted text
IsSpellableOperation (operation.Load c row) = HasFourDigits row
IsSpellableOperation (operation.Find table k) = HasFourDigits k
IsSpellableOperation (operation.Binary o a b) = HasFourDigits a × HasFourDigits b
IsSpellableOperation (operation.Within x a b) = HasFourDigits x × HasFourDigits a × HasFourDigits b
IsSpellableOperation (operation.Not f) = HasFourDigits f
IsSpellableOperation (operation.Read g a n) = HasFourDigits g × HasFourDigits a × (is_i64 n ≡ true)

abbrev pub IsSpellableOp : Op → Type 0
IsSpellableOp (op.Assign t o) = HasFourDigits t × IsSpellableOperation o
IsSpellableOp (op.Keep f) = HasFourDigits f
IsSpellableOp (op.Put g keys values) = HasFourDigits g × All HasFourDigits keys × All HasFourDigits values

-- some line is this statement
abbrev pub IsSayable : Statement → Type 0
IsSayable says.Header = Unit {0}
IsSayable (says.Registers n) = HasFourDigits n
IsSayable (says.Group index group) = HasFourDigits index × All IsKey group.keys
IsSayable (says.Act o) = IsSpellableOp o
IsSayable (says.Scan table t) = HasFourDigits t
IsSayable says.End = Unit {0}
IsSayable (says.Report g) = HasFourDigits g
IsSayable (says.Show show) = (is_show_name show.name ≡ true) × IsShortColumn show.column
IsSayable (says.Sort key) = IsShortColumn key.column

-- some text spells the program: each of its statements can be written
abbrev pub IsSpellable : Parts → Type 0
IsSpellable p = All IsSayable (program_statements p)

-- the text of a spellable program spells it
abbrev pub Written : Type 0
Written = (p : Parts) → IsSpellable p → Spells (program_text p) p

-- no text spells any other program
abbrev pub OnlySpellable : Type 0
OnlySpellable = (text : List ℕ) (p : Parts) → Spells text p → IsSpellable p

-- if some text spells a program, its own text does
abbrev pub WrittenBack : Type 0
WrittenBack = (text : List ℕ) (p : Parts) → Spells text p → Spells (program_text p) p
