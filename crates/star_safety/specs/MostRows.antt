-- The maximum number of rows of a program's report, known before a run (Gray et al. 1997, section
-- 3: the groupings of CUBE and ROLLUP).
use Rattle.std.specs.{Prelude.{ℕ, suc, ◌*◌, ℤ, pos, negsuc, ◌-ℤ◌, nat_le, List, [], ◌∷◌, filter, Option, Some, None, if◌then◌else◌}, List.{list_all, sum_by}, Option.is_none}
use Rattle.star_schema.specs.{declared.group.Shape.Shape, Groups.is_grouping}
use Rattle.star_interval.specs.Range.{Range}
use Rattle.star_program.specs.{declared.group.GroupKey.GroupKey, declared.group.GroupKey.TheVariants.Number, declared.group.GroupKey.TheVariants.Text, declared.program.Parts.Parts, Faults.group_at, Puts.masks, World.World, World.is_text}
use Rattle.star_safety.specs.{Tallies.Share, Tallies.Shares, Tallies.most_of, Tallies.hull_of, Contexts.at_first, Contexts.at_end}

-- ---- the values of a key

-- the number of whole numbers from 0 to this one
abbrev pub numbers_to : ℤ → ℕ
numbers_to (pos n) = suc n
numbers_to (negsuc n) = 0

-- the number of whole numbers in a range
unfoldable pub width : Range → ℕ
width r = numbers_to (r.high -ℤ r.low)

abbrev pub range_width : Option Range → ℕ
range_width None = 0
range_width (Some r) = width r

-- the contributions of all puts to the keys of groups, by index
abbrev pub all_key_shares : World → Parts → Shares
all_key_shares w parts = (at_end w parts at_first parts.body).keys_so_far

-- a text is one of its column's, and a numeric column has none; a number lies in the least range
-- that holds all numbers that are put
abbrev pub possible_values : World → List Share → GroupKey → ℕ
possible_values w shares (Text c) = if is_text c then w.entries c else 0
possible_values w shares Number = range_width (hull_of shares)

-- the number of values of each key, from an index on
abbrev pub each_values : World → (ℕ → List Share) → ℕ → List GroupKey → List ℕ
each_values w shares index [] = []
each_values w shares index (key ∷ keys) =
    possible_values w (shares index) key ∷ each_values w shares (suc index) keys

-- ---- the rows of a grouping

-- the number of value lists of the shown keys, from the number of values of each
abbrev pub lists_of : List (Option ℕ) → ℕ
lists_of [] = 1
lists_of (None ∷ counts) = lists_of counts
lists_of (Some count ∷ counts) = count * lists_of counts

-- the grouping that shows no key has one row; another has no more rows than there are updates,
-- since each update is in one row, and than there are value lists, since none is in two rows
unfoldable pub rows_of_grouping : ℕ → List (Option ℕ) → ℕ
rows_of_grouping updates counts =
    if list_all is_none counts then 1
    else (if nat_le updates (lists_of counts) then updates else lists_of counts)

-- the sum over all groupings of a shape; `counts` has the number of values of each key
abbrev pub rows_of_groupings : Shape → ℕ → List ℕ → ℕ
rows_of_groupings s updates counts =
    sum_by (rows_of_grouping updates) (filter (is_grouping s) (masks counts))

-- ---- of a program

-- the maximum number of rows of the reported group
abbrev pub most_report_rows : World → Parts → ℕ
most_report_rows w parts =
    rows_of_groupings (group_at parts parts.report).shape
    (most_of (all_key_shares w parts parts.report 0))
    (each_values w (all_key_shares w parts parts.report) 0 (group_at parts parts.report).keys)
