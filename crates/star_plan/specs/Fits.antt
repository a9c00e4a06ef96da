-- Which queries fit (this project's profile): by the bounds of the columns and the number of the
-- fact's rows only.
use Rattle.std.specs.{Prelude.{ℕ, ◌≤◌, Bool, true, ◌&&◌, IsTrue}, List.list_all}
use Rattle.star_schema.specs.declared.column.ColumnId.{ColumnId}
use Rattle.star_interval.specs.Range.{Range, only, corner_range, fits_i64}
use Rattle.star_query.specs.{Leaves.fold_expression, Tree.{Expression, column, constant, add, sub, mul, Measure, fold, count}}
use Rattle.star_plan.specs.Meaning.{Plan}

-- the range of an expression whose columns have these: the least and greatest result over the
-- corners of its parts' ranges
abbrev pub expression_range : {C : Type 0} → (C → Range) → Expression C → Range
expression_range bounds e = fold_expression bounds only corner_range e

-- each node of an expression has its range in 64 bits
abbrev pub nodes_fit : {C : Type 0} → (C → Range) → Expression C → Bool
nodes_fit bounds (column c) = fits_i64 (bounds c)
nodes_fit bounds (constant z) = fits_i64 (only z)
nodes_fit bounds (add a b) = nodes_fit bounds a && (nodes_fit bounds b && fits_i64 (expression_range bounds (add a b)))
nodes_fit bounds (sub a b) = nodes_fit bounds a && (nodes_fit bounds b && fits_i64 (expression_range bounds (sub a b)))
nodes_fit bounds (mul a b) = nodes_fit bounds a && (nodes_fit bounds b && fits_i64 (expression_range bounds (mul a b)))

abbrev pub measure_fits : {C : Type 0} → (C → Range) → Measure C → Bool
measure_fits bounds count = true
measure_fits bounds (fold f e) = nodes_fit bounds e

-- a plan fits the fact's rows within a limit
pub record Fits (rows most : ℕ) (bounds : ColumnId → Range) (p : Plan) : Type 0 where
  pub visits : rows ≤ most
  pub nodes : IsTrue (list_all (measure_fits bounds) p.measures)
