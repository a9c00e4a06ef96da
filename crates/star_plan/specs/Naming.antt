-- The names of a query's aggregates, and the meaning of names that an answer shows or is sorted by.
use Rattle.std.specs.{Prelude.{ℕ, ◌+◌, Bool, List, [], ◌∷◌, ◌++◌, Option, Some, None, codes, decimal, nat_eq, option_map}, List.{list_any, position}, Option.option_or, Cmp.Lexicographic.pointwise}
use Rattle.star_schema.specs.declared.group.{GroupColumn.GroupColumn, SortKey.SortKey}
use Rattle.star_schema.specs.declared.group.GroupColumn.TheVariants as group
use Rattle.star_query.specs.{declared.token.Fold.TheVariants.{Sum, Min, Max}, Tree.{Aggregate, Item, Measure, Name, aggregate, count, fold, plain}}
use Rattle.star_query.specs.Tree as tree

unfoldable pub function_word : Measure Name → List ℕ
function_word count = codes "count"
function_word (fold Sum e) = codes "sum"
function_word (fold Min e) = codes "min"
function_word (fold Max e) = codes "max"

abbrev pub default_name : Measure Name → ℕ → List ℕ
default_name m number = function_word m ++ decimal number

abbrev named : Measure Name → ℕ → Option Name → List ℕ
named m number None = default_name m number
named m number (Some n) = n.text

-- an aggregate with no name of its own is named by its function and its number among the aggregates
abbrev pub name_of_aggregate : ℕ → Aggregate → List ℕ
name_of_aggregate number a = named a.measure number a.name

abbrev pub names_from : ℕ → List Item → List (List ℕ)
names_from number [] = []
names_from number (plain n ∷ is') = names_from number is'
names_from number (aggregate a ∷ is') = name_of_aggregate number a ∷ names_from (number + 1) is'

-- the names of the aggregates, which are numbered from 1
abbrev pub aggregate_names : List Item → List (List ℕ)
aggregate_names items = names_from 1 items

-- one of the texts is this one
unfoldable pub has_text : List (List ℕ) → List ℕ → Bool
has_text texts text = list_any (λ t. pointwise nat_eq t text) texts

abbrev offset_from : ℕ → Option Name → ℕ
offset_from function None = function
offset_from function (Some n) = n.offset

-- the position of an aggregate's name, or of the function's word if it has none
abbrev pub name_offset : Aggregate → ℕ
name_offset a = offset_from a.offset a.name

-- ---- the meaning of a name in SELECT or ORDER BY

-- the group column that reads so
abbrev pub key_column : List Name → List ℕ → Option GroupColumn
key_column groups text = option_map (λ index. group.Key index) (position (λ n. pointwise nat_eq n.text text) groups)

-- the aggregate that is named so
abbrev pub aggregate_column : List (List ℕ) → List ℕ → Option GroupColumn
aggregate_column names text = option_map (λ index. group.Aggregate index) (position (λ name. pointwise nat_eq name text) names)

-- a sort key is a group column or else an aggregate
abbrev pub resolved_key : List Name → List (List ℕ) → tree.SortKey → Option SortKey
resolved_key groups names k =
    option_map (λ c. record { column = c; direction = k.direction })
    (option_or (key_column groups k.name.text) (aggregate_column names k.name.text))
