use Rattle.std.proofs.Common.{◌≡◌, take}
use Rattle.star_merge.specs.Private.Flat.{flat_cells}
use Rattle.star_merge.proofs.flat.unflattened.Given as goal

abbrev pub invariant-loop-index : goal.invariant-loop-index
invariant-loop-index l = l.cells.items ≡ take l.index (flat_cells l.numbers l.texts)
