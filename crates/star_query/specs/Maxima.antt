-- The most that a query may have (this project's profile of SQL): each limit is defined only here.
use Rattle.std.specs.Prelude.{ℕ}
use Rattle.star_query.specs.declared.counts.Part.{Part, TheVariants.{Item, Aggregate, GroupColumn, SortKey, Comparison, Operand}}

-- the bytes of a text
abbrev pub most_bytes : ℕ
most_bytes = 65536

-- the bytes of a name
abbrev pub most_name_bytes : ℕ
most_name_bytes = 64

-- the digits of a number
abbrev pub most_digits : ℕ
most_digits = 18

-- how many `not`s and parentheses lie in one another
abbrev pub most_nestings : ℕ
most_nestings = 32

-- the most of a part
abbrev pub limit : Part → ℕ
limit Item = 16
limit Aggregate = 8
limit GroupColumn = 6
limit SortKey = 16
limit Comparison = 256
limit Operand = 512

abbrev pub most_items : ℕ
most_items = limit Item

abbrev pub most_aggregates : ℕ
most_aggregates = limit Aggregate

abbrev pub most_columns : ℕ
most_columns = limit GroupColumn

abbrev pub most_keys : ℕ
most_keys = limit SortKey

abbrev pub most_comparisons : ℕ
most_comparisons = limit Comparison

abbrev pub most_operands : ℕ
most_operands = limit Operand
