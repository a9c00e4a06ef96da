-- Rows of cells as groups.
use Rattle.std.specs.Prelude.{ℕ, ℤ, List, Option, Some, None, drop, map, take}
use Rattle.star_schema.specs.{Groups.GroupRow, Tables.Value, Tables.Number, Tables.Text}
use Rattle.star_program.specs.declared.outcome.Cell.{Cell}
use Rattle.star_program.specs.declared.outcome.Cell.TheVariants as cell

-- the key that a cell shows
abbrev pub key_of : Cell → Option Value
key_of (cell.Number z) = Some (Number z)
key_of (cell.Text text) = Some (Text text)
key_of _ = None

-- the aggregate that a cell shows
abbrev pub total_of : Cell → Option ℤ
total_of (cell.Number z) = Some z
total_of _ = None

-- a row whose first cells are the keys of a group, and the others its aggregates
abbrev pub group_of : ℕ → List Cell → GroupRow Value
group_of count row =
    record { keys = map key_of (take count row); totals = map total_of (drop count row) }
