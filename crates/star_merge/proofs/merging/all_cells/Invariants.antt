use Rattle.std.{proofs.Common.{◌≡◌, map, take}, specs.List.flat_map}
use Rattle.star_program.specs.RowCells.{cell_of}
use Rattle.star_merge.proofs.merging.all_cells.Given as goal

abbrev pub invariant-loop-group : goal.invariant-loop-group
invariant-loop-group l = l.cells.items
    ≡ flat_map (λ group. map (cell_of group) l.items) (take l.group-index l.groups)
