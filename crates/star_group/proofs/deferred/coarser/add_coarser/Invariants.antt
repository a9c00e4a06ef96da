use Rattle.star_group.proofs.Common.{◌≡◌, ◌≤◌, ◌+◌, ℕ, length, listed_entries, NoneCoarser, RollsUp}
use Rattle.star_group.proofs.deferred.coarser.add_coarser.Given as goal

abbrev pub invariant-loop-index : goal.invariant-loop-index
invariant-loop-index l = record {
  above : l.first ≤ l.index;
  below : l.index ≤ l.key_count;
  rolls : RollsUp l.shape l.key_count l.aggregates l.key_count (listed_entries l.fn.rows) l.index
      (listed_entries l.rows);
  width : l.rows.width ≡ l.fn.rows.width;
  many : l.rows.aggregate_count ≡ l.fn.rows.aggregate_count;
  within : l.from ≤ length (listed_entries l.rows);
  none : (index : ℕ) → index + 1 ≡ l.index
      → NoneCoarser l.shape l.key_count index l.from (listed_entries l.rows);
}

abbrev pub decreases-loop-index : goal.decreases-loop-index
decreases-loop-index l = l.index
