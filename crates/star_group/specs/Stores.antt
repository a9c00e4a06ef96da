-- What a store of groups promises, in puts: each puts an update, and the newest put comes first.
use Rattle.std.specs.{Prelude.{◌≡◌, ◌↔◌, ℕ, suc, ◌+◌, ◌<◌, ◌≤◌, ◌^◌, ℤ, pos, negsuc, List, [], ◌∷◌, Option, Some, filter, length, map, slice_index_or}, List.{list_any, AllByRecursion, IsDistinct}, Option.unwrap_or}
use Rattle.star_schema.specs.{declared.group.Aggregate.Aggregate, declared.group.Aggregate.TheVariants.Sum, declared.group.Aggregate.TheVariants.Count, declared.group.Shape.Shape, Groups.IsGroup, Groups.members, Groups.aggregate, Groups.numbers_for}
use Rattle.star_program.specs.{declared.group.GroupDecl.GroupDecl, declared.key.KeyValue.KeyValue, Keys.key_value_cmp, Keys.same_keys, Puts.Update, Puts.aggregate_at}
use Rattle.star_group.specs.{BaseKeys.RowKey}

-- what a store is made for: a shape, how many keys there are, and its aggregates
pub record Group : Type 0 where
  pub shape : Shape
  pub count : ℕ
  pub aggregates : List Aggregate

abbrev pub group_declared : GroupDecl → Group
group_declared d = record { shape = d.shape; count = length d.keys; aggregates = d.aggregates }

-- ---- the content of puts, as a finite map from key lists

abbrev pub key_lists : List Update → List (List KeyValue)
key_lists puts = map (λ put. put.keys) puts

-- the puts with this key list
abbrev pub puts_of : List KeyValue → List Update → List Update
puts_of keys puts = filter (λ put. same_keys keys put.keys) puts

-- a put's number for an aggregate
abbrev pub put_number : ℕ → Update → ℤ
put_number index put = slice_index_or put.values index (pos 0)

-- each key list that was put, once, with the aggregates over its puts
pub record IsContent (d : Group) (puts content : List Update) : Type 0 where
  pub keys : (keys : List KeyValue)
      → list_any (same_keys keys) (key_lists content) ≡ list_any (same_keys keys) (key_lists puts)
  pub once : IsDistinct same_keys (key_lists content)
  pub numbers : AllByRecursion (λ entry. (index : ℕ) → index < length d.aggregates
      → aggregate (aggregate_at d.aggregates index) (numbers_for index (puts_of entry.keys puts))
      ≡ Some (put_number index entry)) content

-- an aggregate over puts from those of their key lists: counts are added
-- (distributive aggregates: Gray et al. 1997, section 5)
abbrev pub combined : Aggregate → List ℤ → Option ℤ
combined Count counts = Some (unwrap_or (aggregate Sum counts) (pos 0))
combined g numbers = aggregate g numbers

-- the groups of the puts are those of the content's key lists, and their aggregates are combined
-- from it
pub record AreOfContent (d : Group) (puts content : List Update) : Type 0 where
  pub groups : (keys : RowKey)
      → IsGroup d.shape d.count puts keys ↔ IsGroup d.shape d.count content keys
  pub aggregates : (keys : RowKey) (index : ℕ) → index < length d.aggregates
      → aggregate (aggregate_at d.aggregates index) (numbers_for index (members key_value_cmp keys puts))
      ≡ combined (aggregate_at d.aggregates index) (numbers_for index (members key_value_cmp keys content))

-- ---- the condition of a put

-- how far numbers can add up above zero
unfoldable pub above_zero : List ℤ → ℕ
above_zero [] = 0
above_zero (pos n ∷ zs) = n + above_zero zs
above_zero (negsuc n ∷ zs) = above_zero zs

-- and below: `negsuc n` is -(n + 1)
unfoldable pub below_zero : List ℤ → ℕ
below_zero [] = 0
below_zero (pos n ∷ zs) = below_zero zs
below_zero (negsuc n ∷ zs) = suc n + below_zero zs

-- the positive numbers add up within 128 bits, and so do the negative ones
pub record AddUp (zs : List ℤ) : Type 0 where
  pub above : above_zero zs < 2 ^ 127
  pub below : below_zero zs ≤ 2 ^ 127

-- the sums of each SUM by key list add up; a COUNT, which is at most the number of puts, stays
-- within 64 bits
pub record HasRoom (d : Group) (puts : List Update) : Type 0 where
  pub sums : (content : List Update) → IsContent d puts content
      → (index : ℕ) → index < length d.aggregates → aggregate_at d.aggregates index ≡ Sum
      → AddUp (numbers_for index content)
  pub counts : (index : ℕ) → index < length d.aggregates → aggregate_at d.aggregates index ≡ Count
      → length puts < 2 ^ 63
