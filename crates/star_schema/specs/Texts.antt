-- The texts of a text column.
use Rattle.std.specs.Prelude.{ℕ, List, [], Option, Some, map, slice_get}
use Rattle.star_schema.specs.{declared.column.ColumnId.ColumnId, Schema.position_of, Tables.Value, Tables.Text}

abbrev pub text_in : Option Value → List ℕ
text_in (Some (Text bytes)) = bytes
text_in _ = []

-- the texts at a position of some rows, in order
unfoldable pub texts_at : ℕ → List (List Value) → List (List ℕ)
texts_at index rows = map (λ row. text_in (slice_get row index)) rows

-- the texts of a text column, in the order of its table's rows
abbrev pub texts_of : ColumnId → List (List Value) → List (List ℕ)
texts_of c rows = texts_at (position_of c) rows
