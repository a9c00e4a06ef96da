use Rattle.std.{proofs.Common.{◌≡◌, ◌<◌, ◌^◌, ◌++◌, All, length, map}, specs.Vec.Iter.into_iter_items}
use Rattle.star_reader.specs.Columns.{values}
use Rattle.star_catalogue.specs.Private.Columns.{as_read}
use Rattle.star_catalogue.proofs.columns.build_columns.Given as goal

abbrev pub invariant-loop-column : goal.invariant-loop-column
invariant-loop-column l = record {
  so_far : map as_read l.columns.items ++ into_iter_items l.column-iterator ≡ l.fn.raw.items;
  small : All (λ raw. length (values raw) < 2 ^ 32) (into_iter_items l.column-iterator);
}
