-- The parts of a query's uses and of its first fault, as the planner goes through them.
use Rattle.std.specs.{Prelude.{ℕ, ◌+◌, ◌||◌, ◌&&◌, ◌++◌, true, List, length, map, Option, Some, None, if◌then◌else◌}, List.flat_map, Option.option_or}
use Rattle.star_common.specs.First.{first_answer}
use Rattle.star_schema.specs.{declared.column.ColumnId.ColumnId, declared.column.Kind.Kind, declared.group.GroupColumn.GroupColumn, Tables.Value, Tables.kind_of_value}
use Rattle.star_query.specs.{Tree.{Aggregate, Condition, Item, Measure, Name, SortKey, Test, aggregate, plain}, Leaves.of_tests}
use Rattle.star_plan.specs.{Naming.{aggregate_names, has_text, key_column, name_of_aggregate, name_offset}, Faults.{aggregates_fault, fact_fault, from_table_fault, group_fault, item_fault, key_fault, missing_fault, pair_fault, scope_fault, use_kind_fault}, declared.fault.PlanFault.PlanFault, declared.fault.PlanFault.TheVariants.DuplicateAlias, First.first_beside, Joins.Pair, Names.{has_name, is_of}, Uses.{Use, item_uses, test_uses, use_when}, Resolved.{measures_of, option_all, resolved_measure}}
use Rattle.star_schema.specs.declared.group.GroupColumn.TheVariants as group

-- ---- the columns that a query names

-- a column of any kind
abbrev pub any_use : Name → Use
any_use n = use_when (λ c. true) n

abbrev pub use_as : Kind → Name → Use
use_as k n = use_when (is_of k) n

abbrev pub use_between : Value → Value → Name → Use
use_between a b n = use_when (λ c. is_of (kind_of_value a) c && is_of (kind_of_value b) c) n

abbrev pub condition_uses : Condition Test → List Use
condition_uses c = of_tests test_uses (λ us. us) ◌++◌ c

abbrev pub items_uses : List Item → List Use
items_uses items = flat_map item_uses items

abbrev pub groups_uses : List Name → List Use
groups_uses names = map any_use names

-- ---- items and aggregates

-- the cell of an item, after `before` aggregates
abbrev pub item_column : List Name → ℕ → Item → Option GroupColumn
item_column groups before (plain n) = key_column groups n.text
item_column groups before (aggregate a) = Some (group.Aggregate before)

abbrev pub resolved_measures : List Item → Option (List (Measure ColumnId))
resolved_measures items = option_all resolved_measure (measures_of items)

-- ---- the fault of an aggregate

-- an aggregate's name is that of one before it, or a group column's
abbrev pub alias_fault : List Name → List (List ℕ) → Aggregate → Option PlanFault
alias_fault groups names a =
    if has_text names (name_of_aggregate (length names + 1) a)
    || has_name groups (name_of_aggregate (length names + 1) a)
    then Some (DuplicateAlias (name_offset a)) else None

-- ---- the first fault of a part

abbrev pub from_fault : List Name → Option PlanFault
from_fault tables = option_or (first_beside from_table_fault tables) (fact_fault tables)

abbrev pub join_fault : List Name → List Pair → Option PlanFault
join_fault tables pairs =
    option_or (first_beside pair_fault pairs) (first_answer (missing_fault pairs) tables)

abbrev pub select_fault : List Name → List Item → Option PlanFault
select_fault groups items =
    option_or (first_beside (item_fault groups) items) (aggregates_fault (aggregate_names items))

-- of the names of tables and columns
abbrev pub naming_fault : List Name → List Use → List Pair → Option PlanFault
naming_fault tables uses pairs =
    option_or (from_fault tables)
    (option_or (first_answer (scope_fault tables) uses)
    (option_or (join_fault tables pairs) (first_answer use_kind_fault uses)))

abbrev pub order_fault : List Name → List Item → List SortKey → Option PlanFault
order_fault groups items keys = first_answer (key_fault groups (aggregate_names items)) keys

-- of the groups, the items and the order
abbrev pub grouping_fault : List Name → List Item → List SortKey → Option PlanFault
grouping_fault groups items keys =
    option_or (first_beside group_fault groups)
    (option_or (select_fault groups items) (order_fault groups items keys))
