-- The columns that a query names, from the left.
use Rattle.std.specs.{Prelude.{ℕ, Bool, true, ◌&&◌, List, [], ◌∷◌, ◌++◌, Option, Some, None, map}, List.flat_map}
use Rattle.star_schema.specs.{declared.column.ColumnId.ColumnId, Tables.kind_of_value}
use Rattle.star_query.specs.{Tree.{Condition, Expression, Item, Measure, Name, Test, Tree, aggregate, between, compare, comparison, count, fold, pair, plain}, Leaves.{of_operands, of_tests}}
use Rattle.star_plan.specs.Names.{column_at, is_of}
use Rattle.star_schema.specs.declared.column.Kind.TheVariants as kind

-- a use of a column: the column, if there is one of this name, and whether it is of the kind that
-- is asked of it there
pub record Use : Type 0 where
  pub column : Option ColumnId
  pub fits : Bool
  pub at : ℕ

-- whether the column, if there is one, fits
abbrev pub use_when : (Option ColumnId → Bool) → Name → Use
use_when fits n = record { column = column_at n; fits = fits (column_at n); at = n.offset }

-- inside an aggregate are only numbers
abbrev pub expression_uses : Expression Name → List Use
expression_uses e = of_operands (λ n. use_when (is_of kind.Number) n ∷ []) (λ z. []) ◌++◌ e

abbrev pub measure_uses : Measure Name → List Use
measure_uses count = []
measure_uses (fold f e) = expression_uses e

abbrev pub item_uses : Item → List Use
item_uses (plain n) = use_when (λ c. true) n ∷ []
item_uses (aggregate a) = measure_uses a.measure

-- a column is compared with literals of its kind
abbrev pub test_uses : Test → List Use
test_uses (pair a b) = use_when (λ c. true) a ∷ use_when (λ c. true) b ∷ []
test_uses (comparison (compare n s l)) = use_when (is_of (kind_of_value l)) n ∷ []
test_uses (comparison (between n from upto)) = use_when (λ c. is_of (kind_of_value from) c && is_of (kind_of_value upto) c) n ∷ []

abbrev pub where_uses : Option (Condition Test) → List Use
where_uses None = []
where_uses (Some c) = of_tests test_uses (λ us. us) ◌++◌ c

-- those of SELECT, of WHERE and of GROUP BY
abbrev pub uses_of : Tree → List Use
uses_of t = flat_map item_uses t.items ++ (where_uses t.condition ++ map (use_when (λ c. true)) t.grouping.columns)
