use Rattle.star_group.proofs.Common.{◌≡◌, ◌<◌, ◌*◌, ℕ, [], length, replicate, slice_index_or, Count, cut, neutral}
use Rattle.star_group.proofs.array_store.making.blank_cells.Given as goal

abbrev pub invariant-loop-aggregate : goal.invariant-loop-aggregate
invariant-loop-aggregate l = record {
  cells : (a : ℕ) → a < l.aggregate-index
      → slice_index_or (cut l.ids l.aggregate-index l.cells.items) a []
      ≡ replicate l.ids (neutral (slice_index_or l.aggregates a Count));
  len : length l.cells.items ≡ l.aggregate-index * l.ids;
}
