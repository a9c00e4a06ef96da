use Rattle.std.{proofs.Common.{◌≡◌, length}, specs.Ordering.int_eq}
use Rattle.star_catalogue.{specs.Private.Indexes.dense_at, proofs.Repeats.HasInserted}
use Rattle.star_catalogue.proofs.dimension.rows_from.Given as goal

abbrev pub invariant-loop-index : goal.invariant-loop-index
invariant-loop-index l = record {
  len : length l.rows.items ≡ l.span;
  inserted : HasInserted int_eq l.keys l.index (dense_at l.least l.rows.items);
}
