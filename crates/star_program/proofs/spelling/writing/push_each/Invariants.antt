-- What was added so far.
use Rattle.std.{proofs.Common.{◌≡◌, ◌++◌, take}, specs.List.flat_map}
use Rattle.star_program.proofs.spelling.writing.push_each.Given as goal

abbrev pub invariant-loop-item : goal.invariant-loop-item
invariant-loop-item g l =
    l.out.items ≡ l.fn.out.items ++ flat_map g.T.Written.text (take l.item-index l.items)
