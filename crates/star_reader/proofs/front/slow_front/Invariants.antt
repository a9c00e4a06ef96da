-- No bar so far, and all printable.
use Rattle.std.{proofs.Common.{◌≡◌, take, true}, specs.List.list_all}
use Rattle.star_common.specs.Printable.{is_printable}
use Rattle.star_reader.specs.Private.Fronts.{is_plain}
use Rattle.star_reader.proofs.front.slow_front.Given as goal

abbrev pub invariant-loop-count : goal.invariant-loop-count
invariant-loop-count l = record {
  plain : list_all is_plain (take l.count l.text) ≡ true;
  printable : list_all is_printable (take l.count l.text) ≡ true;
}
