-- The groups still to come.
use Rattle.std.{proofs.Common.{◌≡◌, ◌++◌, drop}, specs.List.flat_map}
use Rattle.star_program.specs.Text.{Statements.group_lines, Written.written_line}
use Rattle.star_program.proofs.spelling.program_lines.push_groups.Given as goal

abbrev pub invariant-loop-index : goal.invariant-loop-index
invariant-loop-index l =
    l.out.items ++ flat_map written_line (group_lines l.index (drop l.index l.groups))
    ≡ l.fn.out.items ++ flat_map written_line (group_lines 0 l.groups)
