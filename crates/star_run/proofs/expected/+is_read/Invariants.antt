use Rattle.std.proofs.Common.{◌≤◌, drop}
use Rattle.star_program.specs.{Code.code_size, CodeOfSteps.code_of_steps}
use Rattle.star_run.proofs.expected.+is_read.Given as goal

abbrev pub decreases-is_read : goal.decreases-is_read
decreases-is_read l = code_size (code_of_steps l.steps.now)

abbrev pub invariant-loop-step : goal.invariant-loop-step
invariant-loop-step l = code_size (code_of_steps (drop l.step-index l.steps))
    ≤ code_size (code_of_steps l.steps)
