-- The numbers of cells.
use Rattle.star_program.specs.declared.outcome.Cell.{Cell, TheVariants.Number}
use Rattle.star_report.specs.Columns.{HasDigits}

-- a number has at most 64 digits
abbrev pub HasCellDigits : Cell → Type 0
HasCellDigits (Number n) = HasDigits n
HasCellDigits _ = Unit {0}
