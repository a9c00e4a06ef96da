-- The groups that are marked, and those of the steps that are left.
use Rattle.std.proofs.Common.{◌≡◌, ◌≤◌, ◌<◌, ℕ, false, length, drop, get_or}
use Rattle.star_verify.proofs.Common.{code_of_steps, code_puts_to, code_size, ◌||◌}
use Rattle.star_verify.proofs.open_groups.+mark_puts.Given as goal

abbrev pub decreases-mark_puts : goal.decreases-mark_puts
decreases-mark_puts l = code_size (code_of_steps l.steps.now)

abbrev pub invariant-loop-step : goal.invariant-loop-step
invariant-loop-step l = record {
  marked : (g : ℕ) → g < length l.initial.pending
      → (get_or l.pending g false || code_puts_to g (code_of_steps (drop l.step-index l.steps)))
      ≡ (get_or l.initial.pending g false || code_puts_to g (code_of_steps l.steps));
  size : code_size (code_of_steps (drop l.step-index l.steps)) ≤ code_size (code_of_steps l.steps);
}
