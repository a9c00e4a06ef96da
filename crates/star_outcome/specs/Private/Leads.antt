-- What a row has in the two columns by which it is compared first, as numbers of 64 bits.
use Rattle.std.specs.{Prelude.{ℕ, ℤ, pos, negsuc, ◌+ℤ◌, ◌-ℤ◌, Bool, ◌||◌, not, int_lt, List, [], ◌∷◌, Option, Some, None, slice_index_or, if◌then◌else◌}, Int.{int_min, int_max}, Ordering.{int_cmp, int_eq, ordering_then}, declared.cmp.Ordering.Ordering}
use Rattle.star_schema.specs.{declared.group.GroupColumn.GroupColumn, declared.group.Direction.Direction, declared.group.Direction.TheVariants.Ascending, declared.group.Direction.TheVariants.Descending, declared.group.SortKey.SortKey, Groups.GroupRow as Row}
use Rattle.star_program.specs.declared.key.KeyValue.{KeyValue}
use Rattle.star_group.specs.StoreRows.{row_at}
use Rattle.star_outcome.specs.{Private.RowOrder.row_order, declared.outcome.leads.Led.Led}
use Rattle.star_schema.specs.declared.group.GroupColumn.TheVariants as column
use Rattle.star_program.specs.declared.key.KeyValue.TheVariants as key

-- NULL comes first, then numbers, codes, and ALL last; numbers beyond an end have the lead of the
-- end
abbrev pub null_lead : ℤ
null_lead = negsuc 9223372036854775807

abbrev pub least_lead : ℤ
least_lead = negsuc 9223372036854775806

abbrev pub greatest_lead : ℤ
greatest_lead = pos 4611686018427387904

abbrev pub code_lead_end : ℤ
code_lead_end = pos 4611686022722355201

abbrev pub all_lead : ℤ
all_lead = pos 9223372036854775807

abbrev pub number_lead : ℤ → ℤ
number_lead x = int_max least_lead (int_min x greatest_lead)

abbrev pub code_lead : ℕ → ℤ
code_lead n = int_min (pos 4611686018427387905 +ℤ pos n) code_lead_end

-- a lead that several numbers or codes may have
abbrev pub is_end : ℤ → Bool
is_end lead =
    not (int_lt least_lead lead) || (int_eq lead greatest_lead || int_eq lead code_lead_end)

abbrev pub key_lead : Option KeyValue → ℤ
key_lead None = all_lead
key_lead (Some (key.Number x)) = number_lead x
key_lead (Some (key.Code n)) = code_lead n

abbrev pub total_lead : Option ℤ → ℤ
total_lead None = null_lead
total_lead (Some x) = number_lead x

abbrev pub column_lead : GroupColumn → Row KeyValue → ℤ
column_lead (column.Key index) row = key_lead (slice_index_or row.keys index None)
column_lead (column.Aggregate index) row = total_lead (slice_index_or row.totals index None)

-- descending, the greater value is less
abbrev pub directed : Direction → ℤ → ℤ
directed Ascending lead = lead
directed Descending lead = negsuc 0 -ℤ lead

-- by the first sort key
abbrev pub first_lead : List SortKey → Row KeyValue → ℤ
first_lead [] row = null_lead
first_lead (sort ∷ sorts) row = directed sort.direction (column_lead sort.column row)

-- by the next one, unless rows may differ that are level by the first
abbrev pub next_lead : List SortKey → Row KeyValue → ℤ
next_lead [] row = null_lead
next_lead (sort ∷ sorts) row =
    if is_end (column_lead sort.column row) then null_lead else first_lead sorts row

abbrev pub leads_cmp : Led → Led → Ordering
leads_cmp a b = ordering_then (int_cmp a.lead b.lead) (int_cmp a.next b.next)

abbrev pub led_cmp : List SortKey → List (Row KeyValue) → Led → Led → Ordering
led_cmp sorts rows a b = ordering_then (leads_cmp a b)
    (row_order sorts (row_at rows a.number) (row_at rows b.number))

abbrev pub led_at : List SortKey → List (Row KeyValue) → ℕ → Led
led_at sorts rows number = record {
  lead = first_lead sorts (row_at rows number);
  next = next_lead sorts (row_at rows number);
  number = number;
}
