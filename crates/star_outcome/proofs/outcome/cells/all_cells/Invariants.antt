use Rattle.std.{proofs.Common.{◌≡◌, take}, specs.List.flat_map}
use Rattle.star_group.specs.StoreRows.{row_at}
use Rattle.star_outcome.specs.Private.Decoded.{row_cells}
use Rattle.star_world.specs.WorldOf.{world_of}
use Rattle.star_outcome.proofs.outcome.cells.all_cells.Given as goal

abbrev pub invariant-loop-number : goal.invariant-loop-number
invariant-loop-number l = l.cells.items ≡ flat_map
    (λ number. row_cells (world_of l.catalogue) l.declared l.shows (row_at l.rows number))
    (take l.number-index l.numbers)
