-- The turns so far and those of the steps that are left.
use Rattle.std.proofs.Common.{◌≡◌, ◌≤◌, ◌+◌, ◌*◌, ◌^◌, drop}
use Rattle.star_verify.proofs.Common.{code_of_steps, code_size, scan_depth, size_of, turns_met}
use Rattle.star_verify.proofs.visits.+turns_met.Given as goal

abbrev pub decreases-turns_met : goal.decreases-turns_met
decreases-turns_met l = code_size l.body.now

abbrev pub invariant-loop-step : goal.invariant-loop-step
invariant-loop-step l = record {
  sum : l.total + turns_met (size_of l.sizes) l.times
      (code_of_steps (drop l.step-index l.step-items))
      ≡ turns_met (size_of l.sizes) l.times (code_of_steps l.step-items);
  bound : l.total + code_size (code_of_steps (drop l.step-index l.step-items)) * 2 ^ 96
      ≤ code_size (code_of_steps l.step-items) * 2 ^ 96;
  size : code_size (code_of_steps (drop l.step-index l.step-items))
      ≤ code_size (code_of_steps l.step-items);
  deep : l.times * (2 ^ 32) ^ scan_depth (code_of_steps (drop l.step-index l.step-items)) ≤ 2 ^ 96;
}
