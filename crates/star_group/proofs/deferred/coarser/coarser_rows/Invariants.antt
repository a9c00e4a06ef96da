use Rattle.star_group.proofs.{Common.◌≡◌, Common.entries_of, Common.listed_entries, Rolling.IsMergedSoFar}
use Rattle.star_group.proofs.deferred.coarser.coarser_rows.Given as goal

abbrev pub invariant-loop-number : goal.invariant-loop-number
invariant-loop-number l = record {
  merged : IsMergedSoFar l.shape l.key_count l.aggregates l.index (listed_entries l.rows) l.number
      (entries_of l.made);
  width : l.made.listed.width ≡ l.rows.width;
  many : l.made.listed.aggregate_count ≡ l.rows.aggregate_count;
}
