-- The turns of the loops over the aggregates of rows that are merged.
use Rattle.star_group.proofs.Common.{Row, ℕ, ℤ, pos, List, Some, None, length, slice_index_or, Aggregate, Count, cell_of_one_put, merged_at}
use Rattle.std.specs.Prelude.{◌≡◌, ◌<◌, ◌≤◌}

-- the id_count below i of a row are merged, and the others are as they were
pub record MergedBelow (gs : List Aggregate) (held more row : Row) (i : ℕ) : Type 0 where
  pub wide : length row ≡ length held
  pub cells : (index : ℕ) → index < i → slice_index_or row index None ≡ merged_at gs held more index
  pub later : (index : ℕ) → i ≤ index
      → slice_index_or row index None ≡ slice_index_or held index None

-- the id_count below i are those of one put
pub record RowOfBelow (gs : List Aggregate) (vs : List ℤ) (row : Row) (i : ℕ) : Type 0 where
  pub wide : length row ≡ 8
  pub cells : (index : ℕ) → index < i → slice_index_or row index None
      ≡ Some (cell_of_one_put (slice_index_or gs index Count) (slice_index_or vs index (pos 0)))
