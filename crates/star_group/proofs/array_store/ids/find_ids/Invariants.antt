use Rattle.star_group.proofs.Common.{◌≡◌, ◌≤◌, ◌<◌, ℕ, Some, drop, length, slice_index_or, put_in}
use Rattle.star_group.specs.Ids as spec
use Rattle.star_group.proofs.array_store.ids.find_ids.Given as goal

abbrev pub invariant-loop-index : goal.invariant-loop-index
invariant-loop-index l = record {
  behind : (row : ℕ) → row < l.batch.rows
      → spec.group_id (drop l.index l.spans) (drop l.index (put_in l.batch row).keys)
      ≡ Some (slice_index_or l.at row 0);
  within : l.index ≤ length l.spans;
}

abbrev pub decreases-loop-index : goal.decreases-loop-index
decreases-loop-index l = l.index
