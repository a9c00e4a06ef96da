use Rattle.star_group.proofs.{Common.◌≡◌, Common.AreOnce, Common.listed_entries, ArrayListing.IsListedTo}
use Rattle.star_group.proofs.array_store.listing.push_ids.Given as goal

abbrev pub invariant-loop-id : goal.invariant-loop-id
invariant-loop-id l = record {
  listed : AreOnce (listed_entries l.fn.rows)
      → IsListedTo l.aggregates l.spans l.seen l.cells (listed_entries l.fn.rows) l.id
      (listed_entries l.rows);
  width : l.rows.width ≡ l.fn.rows.width;
  aggregate_count : l.rows.aggregate_count ≡ l.fn.rows.aggregate_count;
}
