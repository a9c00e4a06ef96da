use Rattle.std.proofs.Common.{◌≡◌, ◌≤◌, length}
use Rattle.star_flat.proofs.marks.count_remainders.Given as goal

abbrev pub invariant-loop-index : goal.invariant-loop-index
invariant-loop-index l = record {
  room : length l.met.items ≡ length l.texts;
  few : l.different ≤ l.index;
}
