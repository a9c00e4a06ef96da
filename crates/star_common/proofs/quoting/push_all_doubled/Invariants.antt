-- What was added so far.
use Rattle.std.{proofs.Common.{◌≡◌, ◌++◌, take}, specs.List.flat_map}
use Rattle.star_common.specs.Quotes.{doubled}
use Rattle.star_common.proofs.quoting.push_all_doubled.Given as goal

abbrev pub invariant-loop-byte : goal.invariant-loop-byte
invariant-loop-byte l = l.out.items ≡ l.fn.out.items ++ flat_map doubled (take l.byte-index l.text)
