-- The bounds of a column of numbers (this project's profile).
use Rattle.std.specs.{Prelude.{ℕ, ℤ, List, [], ◌∷◌, Option, Some, fold, map, pos, slice_get}, Int.{int_max, int_min}}
use Rattle.star_schema.specs.{declared.column.ColumnId.ColumnId, Schema.position_of, Tables.Value, Tables.Number}

-- the least of some numbers, 0 if there are none
unfoldable pub least : List ℤ → ℤ
least [] = pos 0
least (x ∷ xs) = fold int_min x xs

-- the greatest of some numbers, 0 if there are none
unfoldable pub greatest : List ℤ → ℤ
greatest [] = pos 0
greatest (x ∷ xs) = fold int_max x xs

abbrev pub number_in : Option Value → ℤ
number_in (Some (Number n)) = n
number_in _ = pos 0

-- the numbers at a position of some rows, in order
unfoldable pub numbers_at : ℕ → List (List Value) → List ℤ
numbers_at index rows = map (λ row. number_in (slice_get row index)) rows

-- the numbers of a numeric column, in the order of its table's rows
abbrev pub numbers_of : ColumnId → List (List Value) → List ℤ
numbers_of c rows = numbers_at (position_of c) rows
