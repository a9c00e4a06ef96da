-- The room left and the steps still to come.
use Rattle.std.proofs.Common.{◌≡◌, ◌+◌, drop}
use Rattle.star_program.specs.{Code.code_size, CodeOfSteps.code_of_steps}
use Rattle.star_program.proofs.body.+room.Given as goal

abbrev pub invariant-Body::room_left-loop-step : goal.invariant-Body::room_left-loop-step
invariant-Body::room_left-loop-step l =
    l.left + code_size l.self ≡ l.room + code_size (code_of_steps (drop l.step-index l.step-items))
