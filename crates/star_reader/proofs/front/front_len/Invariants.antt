-- No bar so far.
use Rattle.std.{proofs.Common.{◌≡◌, take, true}, specs.List.list_all}
use Rattle.star_reader.specs.Private.Fronts.{is_plain}
use Rattle.star_reader.proofs.front.front_len.Given as goal

abbrev pub invariant-loop-count : goal.invariant-loop-count
invariant-loop-count l = list_all is_plain (take l.count l.text) ≡ true
