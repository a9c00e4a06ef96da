use Rattle.std.proofs.Common.{◌≡◌, ◌*◌, length}
use Rattle.star_merger.proofs.pieces.read_rows.Given as goal

abbrev pub invariant-loop : goal.invariant-loop
invariant-loop l = length l.cells.items ≡ l.counter * length l.columns
