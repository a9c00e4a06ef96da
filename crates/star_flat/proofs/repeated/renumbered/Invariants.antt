use Rattle.std.proofs.Common.{◌≡◌, map, take, slice_index}
use Rattle.star_flat.specs.Repeated.{indexes_in}
use Rattle.star_flat.proofs.repeated.renumbered.Given as goal

abbrev pub invariant-loop-row : goal.invariant-loop-row
invariant-loop-row l = indexes_in l.renumbered ≡ map (λ index. slice_index l.numbers index)
    (take l.row (indexes_in l.rows))
