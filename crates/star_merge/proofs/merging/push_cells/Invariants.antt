use Rattle.std.proofs.Common.{◌≡◌, ◌++◌, map, take}
use Rattle.star_program.specs.RowCells.{cell_of}
use Rattle.star_merge.proofs.merging.push_cells.Given as goal

abbrev pub invariant-loop-item : goal.invariant-loop-item
invariant-loop-item l = l.cells.items
    ≡ l.fn.cells.items ++ map (cell_of l.group) (take l.item-index l.items)
