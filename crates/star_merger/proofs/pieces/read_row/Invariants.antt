use Rattle.std.proofs.Common.{◌≡◌, ◌+◌, length}
use Rattle.star_merger.proofs.pieces.read_row.Given as goal

abbrev pub invariant-loop-index : goal.invariant-loop-index
invariant-loop-index l = length l.cells.items ≡ length l.fn.cells.items + l.index
