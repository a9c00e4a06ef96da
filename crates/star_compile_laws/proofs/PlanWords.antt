-- The comparisons and aggregates of worked plans, as a reader says them.
use Rattle.star_schema.specs.{declared.column.ColumnId.ColumnId, Tables.Value}
use Rattle.star_query.specs.{declared.token.Fold.TheVariants.Sum, declared.token.Fold.TheVariants.Min, declared.token.Fold.TheVariants.Max, declared.token.Relation.Relation, Tree.Expression, Tree.Measure, Tree.fold, Tree.test}
use Rattle.star_plan.specs.Meaning.{RowCondition}
use Rattle.star_query.specs.Tree as tree

abbrev pub compare : ColumnId → Relation → Value → RowCondition
compare c sign value = test (tree.compare c sign value)

abbrev pub between : ColumnId → (from upto : Value) → RowCondition
between c from upto = test (tree.between c from upto)

abbrev pub summed : Expression ColumnId → Measure ColumnId
summed e = fold Sum e

abbrev pub least : Expression ColumnId → Measure ColumnId
least e = fold Min e

abbrev pub greatest : Expression ColumnId → Measure ColumnId
greatest e = fold Max e
