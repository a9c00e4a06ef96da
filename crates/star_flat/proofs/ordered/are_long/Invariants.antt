use Rattle.std.proofs.Common.{◌≤◌}
use Rattle.star_flat.proofs.ordered.are_long.Given as goal

abbrev pub invariant-loop-index : goal.invariant-loop-index
invariant-loop-index l = l.long ≤ l.index
