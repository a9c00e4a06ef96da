use Rattle.std.proofs.Common.{◌≡◌, ◌++◌, take}
use Rattle.star_merge.proofs.flat.push_copies.Given as goal

abbrev pub invariant-loop-other : goal.invariant-loop-other
invariant-loop-other l = l.cells.items ≡ l.fn.cells.items ++ take l.other-index l.others
