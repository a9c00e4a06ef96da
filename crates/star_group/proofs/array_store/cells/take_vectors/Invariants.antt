use Rattle.star_group.proofs.{Common.{◌≡◌, ◌<◌, ◌≤◌, ◌+◌, ◌*◌, ℕ, drop, length, map, pos, value_count, aligned, put_in, word_in, HasNarrow, batch_vectors}, ArrayVectors.TakenBelow}
use Rattle.std.proofs.Common.{All}
use Rattle.star_group.proofs.array_store.cells.take_vectors.Given as goal

abbrev pub invariant-loop-number : goal.invariant-loop-number
invariant-loop-number l = record {
  taken : TakenBelow l.aggregates l.ids (batch_vectors l.batch) l.at l.fn.cells l.cells l.number;
  narrow : (a : ℕ) → a < l.number → HasNarrow l.batch a;
  numbers : (row : ℕ) → row < l.batch.rows → drop l.number (put_in l.batch row).values
      ≡ aligned (pos 1) (drop l.number l.aggregates) (map (word_in l.batch.vectors.now row) l.left);
  count : length l.left ≡ value_count (drop l.number l.aggregates);
  vectors : All (λ r. r * 1024 + 1024 ≤ length l.batch.vectors.now) l.left;
}
