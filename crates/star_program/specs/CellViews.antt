-- Borrowed cells.
use Rattle.star_program.specs.declared.outcome.{Cell.Cell, CellView.CellView, CellView.TheVariants.Number, CellView.TheVariants.Text, CellView.TheVariants.All, CellView.TheVariants.Null}
use Rattle.star_program.specs.declared.outcome.Cell.TheVariants as cell

abbrev pub cell_viewed : CellView → Cell
cell_viewed (Number z) = cell.Number z
cell_viewed (Text bytes) = cell.Text bytes.now
cell_viewed All = cell.All
cell_viewed Null = cell.Null
