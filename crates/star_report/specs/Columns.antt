-- The cells of a printed column.
use Rattle.std.specs.{Prelude.{◌||◌, ◌<◌, ◌^◌, Bool, not, IsTrue, ℕ, ℤ, unsigned_abs, List, All as Each}, List.{AllZip, list_all}}
use Rattle.star_schema.specs.Records.{ends_line, is_bar}
use Rattle.star_schema.specs.Tables as table
use Rattle.star_program.specs.declared.outcome.Cell.{Cell, TheVariants.Number, TheVariants.Text, TheVariants.All, TheVariants.Null}

-- a column of a report: a key of numbers, a key of texts, or an aggregate
pub data ColumnKind : Type 0 where
  NumberKey : ColumnKind
  TextKey : ColumnKind
  Total : ColumnKind

-- no bar, carriage return or line feed
abbrev pub is_field : List ℕ → Bool
is_field text = list_all (λ b. not (is_bar b || ends_line b)) text

-- a number of at most as many digits as the toolchain's decimals can have; numbers of 128 bits have
-- at most 39
abbrev pub HasDigits : ℤ → Type 0
HasDigits n = unsigned_abs n < 10 ^ 64

-- keys are numbers, or texts, or ALL; aggregates are numbers or NULL
abbrev pub IsCellOfKind : ColumnKind → Cell → Type 0
IsCellOfKind NumberKey (Number n) = HasDigits n
IsCellOfKind NumberKey All = Unit {0}
IsCellOfKind TextKey (Text text) = IsTrue (is_field text)
IsCellOfKind TextKey All = Unit {0}
IsCellOfKind Total (Number n) = HasDigits n
IsCellOfKind Total Null = Unit {0}
IsCellOfKind _ _ = ⊥

-- rows with a cell for each column, of the column's kind
abbrev pub AreRowsOf : List ColumnKind → List (List Cell) → Type 0
AreRowsOf kinds rows = Each (AllZip IsCellOfKind kinds) rows

-- a value whose text fits in one field
abbrev pub IsFieldValue : table.Value → Type 0
IsFieldValue (table.Number n) = Unit {0}
IsFieldValue (table.Text text) = IsTrue (is_field text)
