-- Which rows a query selects, by its own words: those of the product of FROM's tables for which
-- WHERE is true (Star Schema Benchmark, revision 3, section 3).
use Rattle.std.specs.{Prelude.{pos, Bool, true, List, [], ◌∷◌, filter, map, Option}, List.flat_map, Option.{option_map_or, option_to_list}, Ordering.is_eq}
use Rattle.star_schema.specs.{declared.table.TableId.TableId, Groups.Entry, Order.value_cmp, Tables.Value, Tables.Number}
use Rattle.star_query.specs.{Tree.{Name, Test, pair, comparison, Condition, Tree}, Leaves.is_so}
use Rattle.star_plan.specs.{Meaning.{Joined, Tables, comparison_holds, measured, joined_value, with_row}, Names.{column_at, table_at}}
pub use Rattle.star_plan.specs.Resolved.{measures_of}

-- ---- the product

-- a row together with a row of each table, in every choice
abbrev pub with_choices : Tables → List TableId → Joined → List Joined
with_choices ts [] row = row ∷ []
with_choices ts (t ∷ more) row =
    flat_map (λ chosen. with_choices ts more (with_row row t chosen)) (ts t)

-- every choice of a row of each table: the last table's rows change first
abbrev pub product : Tables → List TableId → List Joined
product ts tables = with_choices ts tables (λ t. [])

-- the tables that FROM names, in its order
abbrev pub tables_of : List Name → List TableId
tables_of names = flat_map (λ n. option_to_list (table_at n)) names

-- ---- what WHERE says of a row

-- the value of the column with this name; a well named query has no other names
abbrev pub value_named : Name → Joined → Value
value_named n row = option_map_or (λ c. joined_value c row) (column_at n) (Number (pos 0))

-- numbers compare by value, texts by their bytes
abbrev pub test_is_true : Joined → Test → Bool
test_is_true row (pair m n) = is_eq (value_cmp (value_named m row) (value_named n row))
test_is_true row (comparison c) = comparison_holds (λ n. value_named n row) (λ v. v) c

abbrev pub is_true : Condition Test → Joined → Bool
is_true c row = is_so (test_is_true row) c

-- with no WHERE each row is selected
abbrev pub where_is_true : Option (Condition Test) → Joined → Bool
where_is_true o row = option_map_or (λ c. is_true c row) o true

-- the rows that a query selects
abbrev pub selected : Tables → Tree → List Joined
selected ts q = filter (where_is_true q.condition) (product ts (tables_of q.tables))

-- ---- what a selected row adds to its groups

-- the values of the group columns, and a number for each aggregate
abbrev pub query_entry : Tree → Joined → Entry Value
query_entry q row =
    record {
      keys = map (λ n. value_named n row) q.grouping.columns;
      values = map (measured (λ n. value_named n row)) (measures_of q.items);
    }
