use Rattle.std.proofs.Common.{◌≡◌, ◌++◌, map, take}
use Rattle.star_group.specs.StoreRows.{row_at}
use Rattle.star_program.specs.{Outcome.decoded_row, RowCells.cell_of}
use Rattle.star_world.specs.WorldOf.{world_of}
use Rattle.star_outcome.proofs.outcome.cells.push_cells.Given as goal

abbrev pub invariant-loop-show : goal.invariant-loop-show
invariant-loop-show l = l.cells.items
    ≡ l.fn.cells.items ++ map
    (λ show. cell_of (decoded_row (world_of l.catalogue) l.declared
    (row_at l.rows l.number)) show.column) (take l.show-index l.shows)
