-- The content of a deferred store: only the rows of all keys, and the total.
use Rattle.std.specs.{Prelude.{◌≡◌, ℕ, ◌<◌, Bool, true, false, List, Option, Some, None, filter, length, map, slice_index_or}, List.AllByRecursion, Map.lookup}
use Rattle.star_schema.specs.{declared.group.Aggregate.Aggregate, declared.group.Shape.Shape, Groups.numbers_for}
use Rattle.star_program.specs.{declared.key.KeyValue.KeyValue, declared.key.KeyValue.TheVariants.Number as NumberKey, declared.key.KeyValue.TheVariants.Code as CodeKey, Puts.Update, Puts.aggregate_at, Puts.leaves}
use Rattle.star_group.specs.{declared.keyed.key.KeyPart.KeyPart, declared.keyed.key.KeyPart.TheVariants.{All, Number, Code}, Cells.held, BaseKeys.{is_of_put, key_eq, padded, RowKey}, Stores.Group, Held.has_puts, Keyed.{Entry, Row}}

-- the value at a position of a key, None for ALL
abbrev pub key_value_view : KeyPart → Option KeyValue
key_value_view All = None
key_value_view (Number x) = Some (NumberKey x)
key_value_view (Code n) = Some (CodeKey n)

abbrev pub key_view : List KeyPart → RowKey
key_view parts = map key_value_view parts

-- the row with a key
abbrev pub row_found : List Entry → RowKey → Option Row
row_found entries q = lookup (λ parts. key_eq q (key_view parts)) entries

-- the row has each aggregate over these puts
abbrev pub HasAggregates : Group → List Update → Row → Type 0
HasAggregates d puts row = (index : ℕ) → index < length d.aggregates
    → slice_index_or row index None ≡ held (aggregate_at d.aggregates index) (numbers_for index puts)

-- a row is there exactly if it has a put, and has the aggregates over its puts
abbrev pub IsRowOver : Group → List Update → Option Row → Type 0
IsRowOver d puts None = has_puts puts ≡ false
IsRowOver d puts (Some row) = (has_puts puts ≡ true) × HasAggregates d puts row

-- the puts with these keys
abbrev pub puts_with : RowKey → List Update → List Update
puts_with q puts = filter (λ put. key_eq q (padded 6 put.keys)) puts

-- the puts in the row with these keys
abbrev pub puts_in : Group → RowKey → List Update → List Update
puts_in d q puts = filter (λ put. is_of_put d.shape put.keys q) puts

-- a row for each grouping of the keys of a put
pub record AreGrouped (d : Group) (entries : List Entry) (puts : List Update) : Type 0 where
  pub fit : AllByRecursion (λ put. length put.keys ≡ d.count) puts
  pub rows : (q : RowKey) → IsRowOver d (puts_in d q puts) (row_found entries q)

-- a row for each key list that was put, and the total
pub record IsBase (d : Group) (entries : List Entry) (all : Row) (puts : List Update) : Type 0 where
  pub fit : AllByRecursion (λ put. length put.keys ≡ d.count) puts
  pub rows : (q : RowKey) → IsRowOver d (puts_with q puts) (row_found entries q)
  pub total : HasAggregates d puts all

abbrev pub group_with : Shape → ℕ → List Aggregate → Group
group_with s n gs = record { shape = s; count = n; aggregates = gs }

-- whichever key lists pass a test, no SUM over their puts leaves 128 bits, and no COUNT 64
abbrev pub AreInBits : Group → List Update → Type 0
AreInBits d puts = (passes : List KeyValue → Bool) (index : ℕ) → index < length d.aggregates
    → leaves (aggregate_at d.aggregates index)
    (held (aggregate_at d.aggregates index) (numbers_for index (filter (λ put. passes put.keys) puts))) ≡ false

-- they are those of some puts that stay in their bits
abbrev pub HasBaseWithRoom : Group → List Entry → Row → Type 0
HasBaseWithRoom d entries all = ∥ ((puts : List Update) × IsBase d entries all puts × AreInBits d puts) ∥₁
