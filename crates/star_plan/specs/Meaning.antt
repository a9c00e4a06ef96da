-- What a resolved query means over the rows of the tables (Star Schema Benchmark, revision 3,
-- section 3; Gray et al. 1997).
use Rattle.std.specs.{Prelude.{ℕ, ℤ, pos, Bool, ◌&&◌, List, [], ◌∷◌, filter, map, slice_index_or, if◌then◌else◌}, Ordering.{is_eq, is_ne, is_lt, is_le, is_gt, is_ge}, List.{flat_map, list_all}, declared.cmp.Ordering.Ordering}
use Rattle.star_schema.specs.{declared.table.TableId.TableId, declared.table.TableId.TheVariants.Lineorder, declared.column.ColumnId.ColumnId, declared.group.Shape.Shape, declared.group.Aggregate.Aggregate, declared.group.GroupColumn.GroupColumn, declared.group.SortKey.SortKey, Groups.Entry, Order.value_cmp, Schema.{is_table, position_of, table_of}, Tables.{Value, Number, Text}}
use Rattle.star_query.specs.{Tree.{Expression, Comparison, compare, between, Condition, Measure, fold, count}, declared.token.Relation.Relation, declared.token.Fold.TheVariants.{Sum, Min, Max}, Leaves.{fold_expression, is_so}}
use Rattle.star_plan.specs.declared.tree.Join.{Join}
use Rattle.star_schema.specs.declared.group.Aggregate.TheVariants as aggregate
use Rattle.star_query.specs.declared.token.Relation.TheVariants as sign

-- ---- a query whose names are resolved

-- a condition on a joined row: no two columns are compared in it
abbrev pub RowCondition : Type 0
RowCondition = Condition (Comparison ColumnId Value)

-- its joins, the other conjuncts of its condition, its groups, its aggregates with their names, its
-- items and its order
pub record Plan : Type 0 where
  pub joins : List Join
  pub conjuncts : List RowCondition
  pub shape : Shape
  pub keys : List ColumnId
  pub measures : List (Measure ColumnId)
  pub names : List (List ℕ)
  pub items : List GroupColumn
  pub sorts : List SortKey

-- ---- joined rows

abbrev pub Row : Type 0
Row = List Value

abbrev pub Tables : Type 0
Tables = TableId → List Row

-- a row of each table that is joined
abbrev pub Joined : Type 0
Joined = TableId → Row

-- the value of a column of a row of its table
abbrev pub value_in : ColumnId → Row → Value
value_in c row = slice_index_or row (position_of c) (Number (pos 0))

abbrev pub joined_value : ColumnId → Joined → Value
joined_value c row = value_in c (row (table_of c))

abbrev pub with_row : Joined → TableId → Row → Joined
with_row row t d s = if is_table s t then d else row s

-- the row of a single table
abbrev pub only_row : TableId → Row → Joined
only_row t l = with_row (λ s. []) t l

-- the row of the dimension has the key that the joined row refers to
abbrev pub matches : Joined → Join → Row → Bool
matches row j d = is_eq (value_cmp (joined_value j.foreign row) (value_in j.key d))

-- the row with each choice of a row of every dimension to be joined, if the keys of these are the
-- foreign keys: a comprehension over the product of the dimensions
abbrev pub partners : Tables → List Join → Joined → List Joined
partners ts [] row = row ∷ []
partners ts (j ∷ js) row = flat_map (λ d. partners ts js (with_row row (table_of j.key) d)) (filter (matches row j) (ts (table_of j.key)))

-- each row of lineorder with its partners
abbrev pub joined_rows : Tables → List Join → List Joined
joined_rows ts js = flat_map (λ l. partners ts js (only_row Lineorder l)) (ts Lineorder)

-- ---- selected rows

abbrev pub tests : Relation → Ordering → Bool
tests sign.Equal o = is_eq o
tests sign.Unequal o = is_ne o
tests sign.Less o = is_lt o
tests sign.AtMost o = is_le o
tests sign.Greater o = is_gt o
tests sign.AtLeast o = is_ge o

-- whether a comparison holds if `values` has the value of each column and `stands` that of each
-- operand: numbers compare by value, texts by their bytes, and BETWEEN has both its ends
abbrev pub comparison_holds : {C V : Type 0} → (C → Value) → (V → Value) → Comparison C V → Bool
comparison_holds values stands (compare c s v) = tests s (value_cmp (values c) (stands v))
comparison_holds values stands (between c from upto) =
    is_le (value_cmp (stands from) (values c)) && is_le (value_cmp (values c) (stands upto))

abbrev pub holds : RowCondition → Joined → Bool
holds c row = is_so (comparison_holds (λ c. joined_value c row) (λ v. v)) c

abbrev pub all_hold : List RowCondition → Joined → Bool
all_hold cs row = list_all (λ c. holds c row) cs

-- the rows that a query selects: the joined rows for which every conjunct holds
abbrev pub plan_rows : Tables → Plan → List Joined
plan_rows ts p = filter (all_hold p.conjuncts) (joined_rows ts p.joins)

-- ---- what a selected row adds to its groups

abbrev pub value_number : Value → ℤ
value_number (Number x) = x
value_number (Text bytes) = pos 0

-- the number of an expression whose columns have these values
abbrev pub number_with : {C : Type 0} → (C → Value) → Expression C → ℤ
number_with values e = fold_expression (λ c. value_number (values c)) (λ z. z) (λ op. op) e

-- 1 to a count
abbrev pub measured : {C : Type 0} → (C → Value) → Measure C → ℤ
measured values count = pos 1
measured values (fold f e) = number_with values e

abbrev pub aggregate_of : {C : Type 0} → Measure C → Aggregate
aggregate_of count = aggregate.Count
aggregate_of (fold Sum e) = aggregate.Sum
aggregate_of (fold Min e) = aggregate.Min
aggregate_of (fold Max e) = aggregate.Max

-- the values of the group columns, and a number for each aggregate
abbrev pub entry_of : Plan → Joined → Entry Value
entry_of p row = record { keys = map (λ c. joined_value c row) p.keys; values = map (measured (λ c. joined_value c row)) p.measures }
