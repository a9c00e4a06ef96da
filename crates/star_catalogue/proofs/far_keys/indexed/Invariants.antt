use Rattle.std.{proofs.Common.{◌≡◌, take}, specs.Ordering.int_eq}
use Rattle.star_catalogue.proofs.Repeats.{NoneRepeats}
use Rattle.star_catalogue.proofs.far_keys.indexed.Given as goal

abbrev pub invariant-loop-index : goal.invariant-loop-index
invariant-loop-index l = record {
  keys : l.rows.keys ≡ take l.index l.keys;
  none : NoneRepeats int_eq l.keys l.index;
}
