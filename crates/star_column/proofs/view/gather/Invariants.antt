-- The numbers so far.
use Rattle.std.{proofs.Common.{◌≡◌, length, map, pos, take}, specs.Prelude.slice_index_or}
use Rattle.star_column.specs.Private.Words.{numbers_above}
use Rattle.star_column.proofs.view.gather.Given as goal

abbrev pub invariant-loop-at : goal.invariant-loop-at
invariant-loop-at g l = record {
  long : length l.into ≡ length l.indexes;
  written : take l.at l.into ≡ map (λ index.
      slice_index_or (numbers_above l.bounds.low (map g.W.Word.number l.words)) index (pos 0))
      (take l.at l.indexes);
}
