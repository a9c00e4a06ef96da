-- Rows of different puts merged into one.
use Rattle.std.specs.{Prelude.{◌≡◌, ℕ, ◌<◌, true, false, ℤ, pos, ◌+ℤ◌, List, [], Option, Some, None, length, slice_index_or, if◌then◌else◌}, Int.{int_min, int_max}, Option.unwrap_or}
use Rattle.star_schema.specs.{declared.group.Aggregate.Aggregate, declared.group.Aggregate.TheVariants.Sum, declared.group.Aggregate.TheVariants.Count, declared.group.Aggregate.TheVariants.Min, declared.group.Aggregate.TheVariants.Max}
use Rattle.star_program.specs.{Puts.leaves}
use Rattle.star_group.specs.{Base.row_found, BaseKeys.{key_eq, RowKey}, Keyed.{Entry, Row}}

-- an aggregate over some puts and over some others, as one over all of them: sums and counts are
-- added
abbrev pub merged_total : Aggregate → ℤ → ℤ → ℤ
merged_total Sum x y = x +ℤ y
merged_total Count x y = x +ℤ y
merged_total Min x y = int_min x y
merged_total Max x y = int_max x y

abbrev pub merged : Aggregate → Option ℤ → Option ℤ → Option ℤ
merged g None more = more
merged g (Some x) None = Some x
merged g (Some x) (Some y) = Some (merged_total g x y)

-- one position of two rows merged
abbrev pub merged_at : List Aggregate → Row → Row → ℕ → Option ℤ
merged_at gs held more index =
    merged (slice_index_or gs index Count) (slice_index_or held index None)
    (slice_index_or more index None)

abbrev pub IsMerged : List Aggregate → Row → Row → Row → Type 0
IsMerged gs held more row = (index : ℕ) → index < length gs
    → slice_index_or row index None ≡ merged_at gs held more index

-- no SUM or COUNT of two rows merged leaves its bits
abbrev pub MergeStays : List Aggregate → Row → Row → Type 0
MergeStays gs held more = (index : ℕ) → index < length gs
    → leaves (slice_index_or gs index Count) (merged_at gs held more index) ≡ false

-- a SUM or a COUNT of two rows merged does
pub record MergeLeaves (gs : List Aggregate) (held more : Row) : Type 0 where
  pub index : ℕ
  pub declared : index < length gs
  pub over : leaves (slice_index_or gs index Count) (merged_at gs held more index) ≡ true

-- nor does one of a row merged into the one that is found
abbrev pub RowsStay : List Aggregate → Option Row → Row → Type 0
RowsStay gs None more = Unit {0}
RowsStay gs (Some held) more = MergeStays gs held more

-- what is found after a row was merged into what was found before
abbrev pub IsMergedInto : List Aggregate → Row → Option Row → Option Row → Type 0
IsMergedInto gs more held found = (row : Row) × (found ≡ Some row)
    × IsMerged gs (unwrap_or held []) more row

-- the row with this key is this one, and the others are as they were
abbrev pub IsWithRow : RowKey → Row → List Entry → List Entry → Type 0
IsWithRow key row entries entries' = (q : RowKey)
    → row_found entries' q ≡ (if key_eq q key then Some row else row_found entries q)

-- the row with this key has one more merged in, and the others are as they were
abbrev pub IsMergedAt : List Aggregate → RowKey → Row → List Entry → List Entry → Type 0
IsMergedAt gs key more entries entries' = (row : Row)
    × IsMerged gs (unwrap_or (row_found entries key) []) more row
    × IsWithRow key row entries entries'

-- what one put adds to an aggregate
abbrev pub cell_of_one_put : Aggregate → ℤ → ℤ
cell_of_one_put Count v = pos 1
cell_of_one_put g v = v

-- the row of a single put
abbrev pub IsRowOfOnePut : List Aggregate → List ℤ → Row → Type 0
IsRowOfOnePut gs vs row = (index : ℕ) → index < length gs
    → slice_index_or row index None
    ≡ Some (cell_of_one_put (slice_index_or gs index Count) (slice_index_or vs index (pos 0)))
