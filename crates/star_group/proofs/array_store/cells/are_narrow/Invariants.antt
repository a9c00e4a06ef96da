use Rattle.star_group.proofs.Common.{◌≡◌, ◌<◌, ℕ, pos, true, slice_index_or, is_i64}
use Rattle.star_group.proofs.array_store.cells.are_narrow.Given as goal

abbrev pub invariant-loop-at : goal.invariant-loop-at
invariant-loop-at l = (at : ℕ) → at < l.at → is_i64 (slice_index_or l.words at (pos 0)) ≡ true
