-- What SELECT shows of a group, under which names, and by what ORDER BY sorts.
use Rattle.std.specs.{Prelude.{ℕ, ◌+◌, List, [], ◌∷◌, ◌++◌}, List.flat_map, Option.option_to_list}
use Rattle.star_schema.specs.declared.group.{GroupColumn.GroupColumn, GroupColumn.TheVariants.Aggregate, SortKey.SortKey}
use Rattle.star_query.specs.Tree.{Name, Item, plain, aggregate, Tree}
use Rattle.star_plan.specs.Naming.{name_of_aggregate, aggregate_names, key_column, resolved_key}

-- ---- names

-- the names of the items from this number of an aggregate on: a column's is its own
abbrev pub item_names_from : ℕ → List Item → List (List ℕ)
item_names_from number [] = []
item_names_from number (plain n ∷ items) = n.text ∷ item_names_from number items
item_names_from number (aggregate a ∷ items) =
    name_of_aggregate number a ∷ item_names_from (number + 1) items

-- the names of the items, among which aggregates are numbered from 1
abbrev pub item_names : List Item → List (List ℕ)
item_names items = item_names_from 1 items

-- ---- columns of groups

-- the cells of the items, after `before` aggregates
abbrev pub columns_from : List Name → ℕ → List Item → List GroupColumn
columns_from columns before [] = []
columns_from columns before (plain n ∷ items) =
    option_to_list (key_column columns n.text) ++ columns_from columns before items
columns_from columns before (aggregate a ∷ items) =
    Aggregate before ∷ columns_from columns (before + 1) items

-- the cells of SELECT's items, in their order
abbrev pub item_columns : Tree → List GroupColumn
item_columns q = columns_from q.grouping.columns 0 q.items

-- ---- groups and their order

-- a name of ORDER BY is a group column's or else an aggregate's
abbrev pub sorts_of : Tree → List SortKey
sorts_of q =
    flat_map (λ k. option_to_list (resolved_key q.grouping.columns (aggregate_names q.items) k)) q.keys
