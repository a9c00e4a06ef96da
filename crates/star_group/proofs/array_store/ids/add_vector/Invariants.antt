use Rattle.star_group.proofs.Common.{◌≡◌, ◌≤◌, ◌<◌, ◌+◌, ◌-ℤ◌, ℕ, Some, pos, slice_index_or, above, offset_up_to}
use Rattle.star_group.proofs.array_store.ids.add_vector.Given as goal

abbrev pub invariant-loop-row : goal.invariant-loop-row
invariant-loop-row l = record {
  done : (row : ℕ) → row < l.row
      → above (offset_up_to l.span.last (slice_index_or l.vector row (pos 0) -ℤ l.span.low))
      (l.span.last + 1) (Some (slice_index_or l.fn.at row 0)) ≡ Some (slice_index_or l.at row 0);
  later : (row : ℕ) → l.row ≤ row → slice_index_or l.at row 0 ≡ slice_index_or l.fn.at row 0;
}
