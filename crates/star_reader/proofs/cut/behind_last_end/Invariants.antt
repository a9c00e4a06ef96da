-- No line end from here on.
use Rattle.std.{proofs.Common.{◌≡◌, ◌≤◌, drop, length, true}, specs.List.list_all}
use Rattle.star_reader.specs.Carried.{is_inner}
use Rattle.star_reader.proofs.cut.behind_last_end.Given as goal

abbrev pub invariant-loop-behind : goal.invariant-loop-behind
invariant-loop-behind l = record {
  within : l.behind ≤ length l.piece;
  tail : list_all is_inner (drop l.behind l.piece) ≡ true;
}

abbrev pub decreases-loop-behind : goal.decreases-loop-behind
decreases-loop-behind l = l.behind
