-- The steps so far nest deep enough, so the others decide.
use Rattle.std.proofs.Common.{◌≤◌, ◌↔◌, drop}
use Rattle.star_program.specs.{Code.scan_depth, CodeOfSteps.code_of_steps}
use Rattle.star_program.proofs.body.+nesting.Given as goal

abbrev pub invariant-Body::is_nested_within-loop-step :
    goal.invariant-Body::is_nested_within-loop-step
invariant-Body::is_nested_within-loop-step l =
    (scan_depth l.self ≤ l.scans)
    ↔ (scan_depth (code_of_steps (drop l.step-index l.step-items)) ≤ l.scans)
