-- The content of puts with one put more.
use Rattle.std.specs.{Prelude.{◌≡◌, ℕ, ◌<◌, false, ◌||◌, ℤ, List, [], ◌∷◌, Option, Some, None, length, if◌then◌else◌}, List.{list_any, IsDistinct}}
use Rattle.star_program.specs.{declared.key.KeyValue.KeyValue, Keys.same_keys, Puts.Update, Puts.aggregate_at}
use Rattle.star_group.specs.{Cells.step, Stores.Group, Stores.key_lists, Stores.put_number}

-- the number of a content for a key list and an aggregate, if it has the key list
unfoldable pub group_aggregate : List KeyValue → ℕ → List Update → Option ℤ
group_aggregate keys index [] = None
group_aggregate keys index (entry ∷ rest) =
    if same_keys keys entry.keys then Some (put_number index entry) else group_aggregate keys index rest

-- the put's key list has its numbers with those that it had, and the others are as they were
pub record IsWithPut (d : Group) (put : Update) (content after : List Update) : Type 0 where
  pub keys : (keys : List KeyValue) → list_any (same_keys keys) (key_lists after)
      ≡ (same_keys keys put.keys || list_any (same_keys keys) (key_lists content))
  pub once : IsDistinct same_keys (key_lists after)
  pub own : (index : ℕ) → index < length d.aggregates → group_aggregate put.keys index after
      ≡ Some (step (aggregate_at d.aggregates index) (put_number index put) (group_aggregate put.keys index content))
  pub others : (keys : List KeyValue) → same_keys keys put.keys ≡ false
      → (index : ℕ) → index < length d.aggregates
      → group_aggregate keys index after ≡ group_aggregate keys index content
