-- The order by which merged groups are sorted. It orders all rows, with NULL before the numbers; if
-- rows have the same NULLs, it is the order of a report.
use Rattle.std.specs.{Prelude.{List, [], ◌∷◌, Bool, None, map, slice_index_or}, Cmp.Lexicographic.slice_cmp, Option.{is_some, option_cmp}, Ordering.{int_cmp, ordering_then}, declared.cmp.Ordering.Ordering}
use Rattle.star_schema.specs.{declared.group.GroupColumn.GroupColumn, declared.group.Direction.Direction, declared.group.Direction.TheVariants.{Ascending, Descending}, declared.group.SortKey.SortKey, Groups.GroupRow, Order.{key_cmp, value_cmp}, Tables.Value}
use Rattle.star_schema.specs.declared.group.GroupColumn.TheVariants as column

abbrev pub column_order : GroupColumn → GroupRow Value → GroupRow Value → Ordering
column_order (column.Key index) a b =
    key_cmp value_cmp (slice_index_or a.keys index None) (slice_index_or b.keys index None)
column_order (column.Aggregate index) a b =
    option_cmp int_cmp (slice_index_or a.totals index None) (slice_index_or b.totals index None)

abbrev pub directed_order : GroupColumn → Direction → GroupRow Value → GroupRow Value → Ordering
directed_order c Ascending a b = column_order c a b
directed_order c Descending a b = column_order c b a

abbrev pub sort_order : SortKey → GroupRow Value → GroupRow Value → Ordering
sort_order sort a b = directed_order sort.column sort.direction a b

abbrev pub row_order : List SortKey → GroupRow Value → GroupRow Value → Ordering
row_order [] a b = slice_cmp (key_cmp value_cmp) a.keys b.keys
row_order (sort ∷ sorts) a b = ordering_then (sort_order sort a b) (row_order sorts a b)

-- which of a row's totals are not NULL
abbrev pub numbers_in : GroupRow Value → List Bool
numbers_in row = map is_some row.totals
