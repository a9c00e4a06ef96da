-- The faults of a query's names, and their order (this project's profile of SQL).
use Rattle.std.specs.{Prelude.{ℕ, ◌+◌, false, ◌||◌, List, [], ◌∷◌, length, Option, Some, None, if◌then◌else◌}, Option.{is_none, option_map_or, option_or}}
use Rattle.star_schema.specs.{declared.table.TableId.TheVariants.Lineorder, Schema.table_name, Schema.table_of}
use Rattle.star_common.specs.First.{first_answer}
use Rattle.star_query.specs.Tree.{Item, Name, SortKey, Tree, aggregate, plain}
use Rattle.star_plan.specs.{declared.fault.PlanFault.TheVariants.{UnknownName, NoFactTable, TableTwice, TableNotNamed, JoinMissing, JoinTwice, NotAKeyPair, WrongKind, NotGrouped, DuplicateGroup, UnknownOrderKey, DuplicateAlias, NoAggregate}, declared.fault.PlanFault.PlanFault, First.first_beside, Names.{has_name, table_at}, Uses.{Use, uses_of}, Joins.{Pair, is_joined, where_pairs}, Naming.{name_of_aggregate, aggregate_names, has_text, name_offset}, WellNamed.{is_in_from, is_reached}}

-- ---- the names of FROM

-- a name is no table's, or occurs there before
abbrev pub from_table_fault : List Name → Name → Option PlanFault
from_table_fault before n = if is_none (table_at n) then Some (UnknownName n.offset) else if has_name before n.text then Some (TableTwice n.offset) else None

abbrev pub fact_fault : List Name → Option PlanFault
fact_fault tables = if has_name tables (table_name Lineorder) then None else Some NoFactTable

-- ---- the names of columns

-- a name is no column's, or its table isn't in FROM
abbrev pub scope_fault : List Name → Use → Option PlanFault
scope_fault tables u = if is_none u.column then Some (UnknownName u.at) else if is_in_from tables u.column then None else Some (TableNotNamed u.at)

-- a column isn't of the kind that is asked of it: a number inside an aggregate, the literal's kind
-- in a comparison
abbrev pub use_kind_fault : Use → Option PlanFault
use_kind_fault u = if u.fits then None else Some (WrongKind u.at)

-- ---- comparisons of two columns

-- two columns don't join, or their dimension has a join before
abbrev pub pair_fault : List Pair → Pair → Option PlanFault
pair_fault before p =
    if is_none p.join then Some (NotAKeyPair p.at) else if option_map_or (λ j. is_joined before (table_of j.key)) p.join false then Some (JoinTwice p.at) else None

-- a dimension of FROM has no join
abbrev pub missing_fault : List Pair → Name → Option PlanFault
missing_fault pairs n = if is_reached pairs (table_at n) then None else Some (JoinMissing n.offset)

-- ---- groups, items and the order

abbrev pub group_fault : List Name → Name → Option PlanFault
group_fault before n = if has_name before n.text then Some (DuplicateGroup n.offset) else None

-- after aggregates of these names a plain column isn't in GROUP BY, or an aggregate's name is one
-- of them or a group column's
abbrev pub item_fault_after : List Name → List (List ℕ) → Item → Option PlanFault
item_fault_after groups names (plain n) = if has_name groups n.text then None else Some (NotGrouped n.offset)
item_fault_after groups names (aggregate a) =
    if has_text names (name_of_aggregate (length names + 1) a) || has_name groups (name_of_aggregate (length names + 1) a)
    then Some (DuplicateAlias (name_offset a)) else None

-- an item after others
abbrev pub item_fault : List Name → List Item → Item → Option PlanFault
item_fault groups before i = item_fault_after groups (aggregate_names before) i

abbrev pub aggregates_fault : List (List ℕ) → Option PlanFault
aggregates_fault [] = Some NoAggregate
aggregates_fault (name ∷ names) = None

-- a sort key is neither a group column nor an aggregate's name
abbrev pub key_fault : List Name → List (List ℕ) → SortKey → Option PlanFault
key_fault groups names k =
    if has_name groups k.name.text || has_text names k.name.text then None else Some (UnknownOrderKey k.name.offset)

-- ---- the first fault of a query

-- in: FROM, the names of columns, the joins, the kinds of columns, GROUP BY, the items, ORDER BY
abbrev pub plan_fault : Tree → Option PlanFault
plan_fault t =
    option_or
    (option_or (option_or (first_beside from_table_fault t.tables) (fact_fault t.tables))
    (option_or (first_answer (scope_fault t.tables) (uses_of t))
    (option_or (option_or (first_beside pair_fault (where_pairs t.condition)) (first_answer (missing_fault (where_pairs t.condition)) t.tables))
    (first_answer use_kind_fault (uses_of t)))))
    (option_or (first_beside group_fault t.grouping.columns)
    (option_or (option_or (first_beside (item_fault t.grouping.columns) t.items) (aggregates_fault (aggregate_names t.items)))
    (first_answer (key_fault t.grouping.columns (aggregate_names t.items)) t.keys)))
