-- Columns that grow by a row.
use Rattle.std.specs.Prelude.{◌++◌, List, [], ◌∷◌}
use Rattle.star_schema.specs.Tables.{Value}

-- the columns with one more value each, as far as there are values
unfoldable pub extended_columns : List (List Value) → List Value → List (List Value)
extended_columns [] vs = []
extended_columns (column ∷ columns) [] = column ∷ columns
extended_columns (column ∷ columns) (v ∷ vs) = (column ++ v ∷ []) ∷ extended_columns columns vs
