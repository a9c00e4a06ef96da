use Rattle.std.{proofs.Common.{◌≡◌, ◌-◌, ◌≤◌, Some}, specs.List.{slice_get, zip}}
use Rattle.star_catalogue.proofs.Rising.{RiseBefore}
use Rattle.star_catalogue.proofs.keys.is_rising.Given as goal

abbrev pub invariant-loop-index : goal.invariant-loop-index
invariant-loop-index l = record {
  rise : RiseBefore l.index (zip l.firsts l.seconds);
  last : 1 ≤ l.index → slice_get (zip l.firsts l.seconds) (l.index - 1) ≡ Some l.before;
}
