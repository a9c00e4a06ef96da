-- The order by which the rows of a group are sorted: an order of all rows, which for the rows of
-- one group is the order of the report.
use Rattle.std.specs.{Prelude.{ℕ, List, [], ◌∷◌, ◌++◌, None, map, slice_index_or}, List.range_with_len, Option.option_cmp, Ordering.{int_cmp, ordering_then}, declared.cmp.Ordering.Ordering, declared.cmp.Ordering.TheVariants.Equal}
use Rattle.star_schema.specs.{declared.group.GroupColumn.GroupColumn, declared.group.Direction.Direction, declared.group.Direction.TheVariants.Ascending, declared.group.Direction.TheVariants.Descending, declared.group.SortKey.SortKey, Groups.GroupRow as Row, Order.key_cmp}
use Rattle.star_program.specs.{declared.key.KeyValue.KeyValue, Keys.key_value_cmp}
use Rattle.star_schema.specs.declared.group.GroupColumn.TheVariants as column

-- as reports are sorted, but with NULL before the numbers
abbrev pub column_order : GroupColumn → Row KeyValue → Row KeyValue → Ordering
column_order (column.Key index) a b =
    key_cmp key_value_cmp (slice_index_or a.keys index None) (slice_index_or b.keys index None)
column_order (column.Aggregate index) a b =
    option_cmp int_cmp (slice_index_or a.totals index None) (slice_index_or b.totals index None)

abbrev pub directed_order : GroupColumn → Direction → Row KeyValue → Row KeyValue → Ordering
directed_order c Ascending a b = column_order c a b
directed_order c Descending a b = column_order c b a

abbrev pub sort_order : SortKey → Row KeyValue → Row KeyValue → Ordering
sort_order sort a b = directed_order sort.column sort.direction a b

-- by each of some sort keys
abbrev pub row_order : List SortKey → Row KeyValue → Row KeyValue → Ordering
row_order [] a b = Equal
row_order (sort ∷ sorts) a b = ordering_then (sort_order sort a b) (row_order sorts a b)

abbrev pub key_sort : ℕ → SortKey
key_sort index = record { column = column.Key index; direction = Ascending }

-- the sort keys, and then all keys of rows that have `count`
abbrev pub all_sorts : List SortKey → ℕ → List SortKey
all_sorts sorts count = sorts ++ map key_sort (range_with_len 0 count)
