-- The lines of the steps still to come.
use Rattle.std.{proofs.Common.{◌≡◌, ◌≤◌, ◌+◌, ◌*◌, ◌++◌, drop}, specs.List.flat_map}
use Rattle.star_program.specs.{Code.code_size, Code.scan_depth, CodeOfSteps.code_of_steps, Private.Followed.code_of_step, Text.Statements.lines_of_code, Text.Written.written_line}
use Rattle.star_program.proofs.spelling.body_lines.+writing.Given as goal

abbrev pub decreases-push_body : goal.decreases-push_body
decreases-push_body l = 2 * code_size l.body.now + 1

abbrev pub decreases-push_step : goal.decreases-push_step
decreases-push_step l = 2 * code_size (code_of_step l.step.now)

abbrev pub invariant-push_body-loop-step : goal.invariant-push_body-loop-step
invariant-push_body-loop-step l = record {
  lines : l.out.items ++ flat_map written_line
      (lines_of_code l.depth (code_of_steps (drop l.step-index l.step-items)))
      ≡ l.fn.out.items ++ flat_map written_line (lines_of_code l.depth l.body);
  size : code_size (code_of_steps (drop l.step-index l.step-items)) ≤ code_size l.body;
  depth : l.depth + scan_depth (code_of_steps (drop l.step-index l.step-items)) ≤ 3;
}
