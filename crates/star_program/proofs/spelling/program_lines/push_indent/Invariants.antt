-- The spaces still to come.
use Rattle.std.proofs.Common.{◌≡◌, ◌++◌, ◌*◌, replicate}
use Rattle.star_program.proofs.spelling.program_lines.push_indent.Given as goal

abbrev pub invariant-loop-left : goal.invariant-loop-left
invariant-loop-left l = l.out.items ++ replicate (2 * l.left) 32
    ≡ l.fn.out.items ++ replicate (2 * l.fn.depth) 32

abbrev pub decreases-loop-left : goal.decreases-loop-left
decreases-loop-left l = l.left
