use Rattle.std.proofs.Common.{◌≡◌, ◌+◌, drop}
use Rattle.star_program.specs.{Code.code_size, CodeOfSteps.code_of_steps}
use Rattle.star_trial.proofs.walk.+size.Given as goal

abbrev pub decreases-size : goal.decreases-size
decreases-size l = code_size l.body.now

abbrev pub invariant-loop-step : goal.invariant-loop-step
invariant-loop-step l = l.total + code_size (code_of_steps (drop l.step-index l.step-items))
    ≡ code_size (code_of_steps l.step-items)
