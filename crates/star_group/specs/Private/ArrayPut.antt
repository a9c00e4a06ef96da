-- The rows of a batch at positions, and the rows of all keys.
use Rattle.std.specs.Prelude.{◌≡◌, ◌<◌, ℕ, Bool, ℤ, List, Some, length, slice_index_or}
use Rattle.star_schema.specs.{declared.group.Aggregate.Aggregate, declared.group.Shape.Shape}
use Rattle.star_group.specs.{declared.batch.PutBatch.PutBatch, declared.array_store.span.Span.Span, Batches.put_in, ById.IsArrayContent, Ids.group_id, Base.group_with, Private.Coarser.IsRolledUp, Keyed.{Entry, Row}}
use Rattle.star_program.specs.Puts.{Update}

-- the rows of a batch have these positions
abbrev pub AreAtIds : List Span → PutBatch → List ℕ → Type 0
AreAtIds spans b at = (row : ℕ) → row < b.rows
    → group_id spans (put_in b row).keys ≡ Some (slice_index_or at row 0)

-- whichever puts the cells and the other rows were those of, these are their rows, each key once
abbrev pub IsListed : List Aggregate → List Span → List Bool → List ℤ
    → List Entry → List Entry → Type 0
IsListed gs spans seen cells es fs =
    (shape : Shape) (rest : Row) (puts : List Update)
    → IsArrayContent (group_with shape (length spans) gs) spans seen cells es rest puts
    → IsRolledUp (group_with shape (length spans) gs) (length spans) fs puts
