-- The cell in a storage.
use Rattle.star_program.specs.declared.outcome.{Cell.Cell, Kept.Kept, Kept.TheVariants.{Number, Wide, Text, All, Null}}
use Rattle.star_program.specs.declared.outcome.Cell.TheVariants as cell

abbrev pub cell_view : Kept → Cell
cell_view (Number z) = cell.Number z
cell_view (Wide number) = cell.Number number.value
cell_view (Text text) = cell.Text text
cell_view All = cell.All
cell_view Null = cell.Null
