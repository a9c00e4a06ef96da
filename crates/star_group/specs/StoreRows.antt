-- The rows that a store gives in the end.
use Rattle.std.specs.Prelude.{◌≡◌, ℕ, List, [], Some, slice_get, slice_index_or}
use Rattle.star_schema.specs.Groups.{AreGroups, GroupRow}
use Rattle.star_program.specs.{declared.key.KeyValue.KeyValue, Keys.key_value_cmp, Puts.Update}
use Rattle.star_group.specs.{Stores.Group}

-- the row of a number from 0; past the last one there is nothing in it
abbrev pub row_at : List (GroupRow KeyValue) → ℕ → GroupRow KeyValue
row_at rows number = slice_index_or rows number (record { keys = []; totals = [] })

-- the rows are the groups of the puts with their aggregates, each once
pub record AreRows (d : Group) (puts : List Update) (rows : List (GroupRow KeyValue)) : Type 0 where
  pub groups : AreGroups key_value_cmp d.shape d.count d.aggregates puts rows
  pub once : (i j : ℕ) (a b : GroupRow KeyValue) → slice_get rows i ≡ Some a → slice_get rows j ≡ Some b → a.keys ≡ b.keys → i ≡ j
