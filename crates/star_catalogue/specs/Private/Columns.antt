-- A column in memory, as the column that was read.
use Rattle.star_reader.specs.declared.column.RawColumn.{RawColumn}
use Rattle.star_catalogue.specs.{declared.columns.Column.Column, declared.columns.Column.TheVariants.Numbers, declared.columns.Column.TheVariants.Texts}
use Rattle.star_reader.specs.declared.column.RawColumn.TheVariants as read

-- the column that was read with these values
abbrev pub as_read : Column → RawColumn
as_read (Numbers numbers) = read.Numbers numbers
as_read (Texts texts) = read.Texts texts
