-- No line end so far.
use Rattle.std.{proofs.Common.{◌≡◌, take, true}, specs.List.list_all}
use Rattle.star_reader.specs.Carried.{is_inner}
use Rattle.star_reader.proofs.cut.first_end.Given as goal

abbrev pub invariant-loop-index : goal.invariant-loop-index
invariant-loop-index l = list_all is_inner (take l.index l.piece) ≡ true
