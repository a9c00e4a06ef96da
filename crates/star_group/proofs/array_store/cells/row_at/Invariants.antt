use Rattle.star_group.proofs.Common.{◌≡◌, ◌<◌, ℕ, Some, None, [], length, pos, slice_index_or, cut}
use Rattle.star_group.proofs.array_store.cells.row_at.Given as goal

abbrev pub invariant-loop-number : goal.invariant-loop-number
invariant-loop-number l = record {
  cells : (a : ℕ) → a < l.number → slice_index_or l.row a None
      ≡ Some (slice_index_or (slice_index_or (cut l.ids l.aggregate_count l.cells) a []) l.id
      (pos 0));
  wide : length l.row ≡ 8;
}
