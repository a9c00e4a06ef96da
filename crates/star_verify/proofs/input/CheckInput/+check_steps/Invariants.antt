use Rattle.std.proofs.Common.{◌+◌, ◌*◌, length}
use Rattle.star_verify.proofs.Common.{AreRemainingSteps, before, code_of_steps, code_size}
use Rattle.star_verify.proofs.input.CheckInput.+check_steps.Given as goal

abbrev pub decreases-check_steps : goal.decreases-check_steps
decreases-check_steps l = 3 * code_size (code_of_steps l.steps.now) + 1

abbrev pub decreases-check_step : goal.decreases-check_step
decreases-check_step l = 3 * code_size (before l.step.now (code_of_steps l.rest.now))

abbrev pub decreases-scan : goal.decreases-scan
decreases-scan l = 3 * code_size l.body.now + 2

abbrev pub invariant-check_steps-loop-left : goal.invariant-check_steps-loop-left
invariant-check_steps-loop-left l =
    AreRemainingSteps (record {
      input = l.self;
      position = l.position;
      state = l.fn.state;
      steps = l.steps;
    }) l.state l.at l.left

abbrev pub decreases-check_steps-loop-left : goal.decreases-check_steps-loop-left
decreases-check_steps-loop-left l = length l.left
