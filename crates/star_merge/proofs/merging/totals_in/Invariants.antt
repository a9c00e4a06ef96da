use Rattle.std.proofs.Common.{◌≡◌, map, take}
use Rattle.star_merge.specs.Cells.{total_of}
use Rattle.star_merge.proofs.merging.totals_in.Given as goal

abbrev pub invariant-loop-cell : goal.invariant-loop-cell
invariant-loop-cell l = l.totals.items ≡ map total_of (take l.cell-index l.cells)
