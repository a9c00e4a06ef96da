-- What a query answers over five tables, by its own words and by its plan's.
use Rattle.std.specs.Prelude.{◌≡◌, ℕ, List, [], length, map, slice_index_or}
use Rattle.star_schema.specs.{declared.column.ColumnId.TheVariants.DDatekey, declared.group.GroupColumn.GroupColumn, declared.group.GroupColumn.TheVariants.{Key, Aggregate}, Groups.{AreGroups, GroupRow}, Order.{AreInOrder, value_cmp}, Schema.column_name, Tables.Value}
use Rattle.star_query.specs.Tree.{Tree}
use Rattle.star_plan.specs.Meaning.{Plan, Tables}
use Rattle.star_program.specs.{declared.outcome.Cell.Cell, RowCells.cell_of}
use Rattle.star_query_meaning.specs.{Rows.query_entry, Rows.measures_of, Rows.selected, Shows.item_columns, Shows.item_names, Shows.sorts_of}
use Rattle.star_plan.specs.Meaning as of_plan

-- a header and rows: the groups of the selected rows with their aggregates, in the query's order,
-- each cut to the items of SELECT in their order, under their names
pub record IsAnswer (ts : Tables) (q : Tree) (names : List (List ℕ)) (rows : List (List Cell))
    : Type 0 where
  pub headed : names ≡ item_names q.items
  pub groups : List (GroupRow Value)
  pub each_group : AreGroups value_cmp q.grouping.shape (length q.grouping.columns)
      (map of_plan.aggregate_of (measures_of q.items)) (map (query_entry q) (selected ts q)) groups
  pub in_order : AreInOrder value_cmp (sorts_of q) groups
  pub cells : rows ≡ map (λ group. map (cell_of group) (item_columns q)) groups

-- under which name a column of a plan's groups is shown: a key under its column's, an aggregate
-- under its own
abbrev pub shown_name : Plan → GroupColumn → List ℕ
shown_name p (Key index) = column_name (slice_index_or p.keys index DDatekey)
shown_name p (Aggregate index) = slice_index_or p.names index []

-- the same of a plan
pub record IsPlanAnswer (ts : Tables) (p : Plan) (names : List (List ℕ)) (rows : List (List Cell))
    : Type 0 where
  pub headed : names ≡ map (shown_name p) p.items
  pub groups : List (GroupRow Value)
  pub each_group : AreGroups value_cmp p.shape (length p.keys) (map of_plan.aggregate_of p.measures)
      (map (of_plan.entry_of p) (of_plan.plan_rows ts p)) groups
  pub in_order : AreInOrder value_cmp p.sorts groups
  pub cells : rows ≡ map (λ group. map (cell_of group) p.items) groups
