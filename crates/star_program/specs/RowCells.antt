-- The cells of a group's row, of a program or of a query.
use Rattle.std.specs.Prelude.{ℤ, slice_index_or, Option, Some, None}
use Rattle.star_schema.specs.{declared.group.GroupColumn.GroupColumn, Groups.GroupRow, Tables.Value, Tables.Number, Tables.Text}
use Rattle.star_program.specs.declared.outcome.Cell.{Cell}
use Rattle.star_schema.specs.declared.group.GroupColumn.TheVariants as column
use Rattle.star_program.specs.declared.outcome.Cell.TheVariants as cell

-- a hidden key is ALL
abbrev pub key_cell : Option Value → Cell
key_cell None = cell.All
key_cell (Some (Number z)) = cell.Number z
key_cell (Some (Text bytes)) = cell.Text bytes

-- an aggregate over nothing is NULL
abbrev pub total_cell : Option ℤ → Cell
total_cell None = cell.Null
total_cell (Some z) = cell.Number z

-- the cell of a row in a column
abbrev pub cell_of : GroupRow Value → GroupColumn → Cell
cell_of row (column.Key index) = key_cell (slice_index_or row.keys index None)
cell_of row (column.Aggregate index) = total_cell (slice_index_or row.totals index None)
