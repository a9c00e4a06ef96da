-- The trees of plans as the resolved queries that they hold.
use Rattle.std.specs.Prelude.{ℕ, List, map}
use Rattle.star_schema.specs.{declared.column.ColumnId.ColumnId, Tables.Value}
use Rattle.star_query.specs.{Views.{comparison_by, condition_by, expression_by, literal_view, measure_by}, Tree.{Comparison, Expression, Measure}}
use Rattle.star_plan.specs.{declared.tree.Aggregate.Aggregate, declared.tree.PlanTree.PlanTree, Meaning.RowCondition, Meaning.Plan}
pub use Rattle.star_query.specs.Views.{literal_view as literal_value_view}
use Rattle.star_query.specs.declared.tree.Comparison as of_comparison
use Rattle.star_query.specs.declared.tree.Condition as of_condition
use Rattle.star_query.specs.declared.tree.Expression as of_expression
use Rattle.star_query.specs.declared.tree.Measure as of_measure

abbrev pub comparison_view : of_comparison.Comparison ColumnId → Comparison ColumnId Value
comparison_view c = comparison_by (λ c. c) literal_view c

abbrev pub row_condition_view : of_condition.Condition (of_comparison.Comparison ColumnId) → RowCondition
row_condition_view c = condition_by comparison_view c

abbrev pub column_expression_view : of_expression.Expression ColumnId → Expression ColumnId
column_expression_view e = expression_by (λ c. c) e

abbrev pub column_measure_view : of_measure.Measure ColumnId → Measure ColumnId
column_measure_view m = measure_by (λ c. c) m

abbrev pub measures_view : List Aggregate → List (Measure ColumnId)
measures_view as' = map (λ a. column_measure_view a.measure) as'

abbrev pub names_view : List Aggregate → List (List ℕ)
names_view as' = map (λ a. a.name.items) as'

-- the resolved query that the tree of a plan holds
abbrev pub plan_view : PlanTree → Plan
plan_view t = record {
  joins = t.joins.items;
  conjuncts = map row_condition_view t.conjuncts.items;
  shape = t.shape;
  keys = t.keys.items;
  measures = measures_view t.aggregates.items;
  names = names_view t.aggregates.items;
  items = t.items.items;
  sorts = t.sorts.items;
}
