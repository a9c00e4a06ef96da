-- The order of a group's rows (Gray et al. 1997, section 3.3, on the value ALL; that ALL comes last
-- is this project's profile).
use Rattle.std.specs.{Prelude.{ℤ, List, [], ◌∷◌, slice_index_or, Option, Some, None}, Cmp.Lexicographic.slice_cmp, List.Sorted.IsStrictlySortedBy, Ordering.{int_cmp, nat_cmp, ordering_then}, declared.cmp.Ordering.Ordering, declared.cmp.Ordering.TheVariants.{Less, Equal, Greater}}
use Rattle.star_schema.specs.{declared.group.GroupColumn.GroupColumn, declared.group.Direction.Direction, declared.group.Direction.TheVariants.{Ascending, Descending}, declared.group.SortKey.SortKey, Groups.GroupRow, Tables.{Value, Number, Text}}
use Rattle.star_schema.specs.declared.group.GroupColumn.TheVariants as column

-- numbers compare by value, texts by their bytes
abbrev pub value_cmp : Value → Value → Ordering
value_cmp (Number x) (Number y) = int_cmp x y
value_cmp (Text a) (Text b) = slice_cmp nat_cmp a b
value_cmp (Number x) (Text b) = Less
value_cmp (Text a) (Number y) = Greater

-- ALL comes after every value
abbrev pub key_cmp : {K : Type 0} → (K → K → Ordering) → Option K → Option K → Ordering
key_cmp cmp (Some a) (Some b) = cmp a b
key_cmp cmp (Some a) None = Less
key_cmp cmp None (Some b) = Greater
key_cmp cmp None None = Equal

-- NULL is never compared with another row: only the one group by no key over no rows has it
abbrev pub total_cmp : Option ℤ → Option ℤ → Ordering
total_cmp (Some x) (Some y) = int_cmp x y
total_cmp _ _ = Equal

abbrev pub column_cmp : {K : Type 0} → (K → K → Ordering) → GroupColumn → GroupRow K → GroupRow K
    → Ordering
column_cmp cmp (column.Key index) a b =
    key_cmp cmp (slice_index_or a.keys index None) (slice_index_or b.keys index None)
column_cmp cmp (column.Aggregate index) a b =
    total_cmp (slice_index_or a.totals index None) (slice_index_or b.totals index None)

abbrev directed_cmp : {K : Type 0} → (K → K → Ordering) → GroupColumn → Direction → GroupRow K
    → GroupRow K → Ordering
directed_cmp cmp c Ascending a b = column_cmp cmp c a b
directed_cmp cmp c Descending a b = column_cmp cmp c b a

-- descending reverses the whole order
abbrev pub sort_cmp : {K : Type 0} → (K → K → Ordering) → SortKey → GroupRow K → GroupRow K
    → Ordering
sort_cmp cmp sort a b = directed_cmp cmp sort.column sort.direction a b

-- by the sort keys, then by all keys of the group
abbrev pub row_cmp : {K : Type 0} → (K → K → Ordering) → List SortKey → GroupRow K → GroupRow K
    → Ordering
row_cmp cmp [] a b = slice_cmp (key_cmp cmp) a.keys b.keys
row_cmp cmp (sort ∷ sorts) a b = ordering_then (sort_cmp cmp sort a b) (row_cmp cmp sorts a b)

-- each row is less than every later one; no row occurs twice
abbrev pub AreInOrder : {K : Type 0} → (K → K → Ordering) → List SortKey → List (GroupRow K)
    → Type 0
AreInOrder cmp sorts rows = IsStrictlySortedBy (row_cmp cmp sorts) rows
