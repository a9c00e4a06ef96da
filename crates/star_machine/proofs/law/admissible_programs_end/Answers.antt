-- The run ends within the quote, and so does what a trial answers of it.
use Rattle.std.{proofs.Common.{◌≡◌, ◌≤◌, ℕ, arith, refl, subst}, specs.Prelude.{MatchResult, Result, Ok, Err}}
use Rattle.star_program.specs.{declared.outcome.Outcome.Outcome, declared.program.Parts.Parts, Run.bounded_run_of, World.World}
use Rattle.star_safety.specs.{Laws.EndsWithin, Quote.quote}
use Rattle.star_trial.specs.{declared.fault.TrialFault.TrialFault, Trials.IsTrial}
use Rattle.star_world.specs.WorldOf.{world_of}
use Rattle.star_trial.specs.declared.fault.TrialFault.TheVariants as fault
use Rattle.star_machine.proofs.law.admissible_programs_end.Goals as goal

within : (w : World) (parts : Parts) (most quoted : ℕ) (result : Result Outcome TrialFault)
    → EndsWithin quoted (bounded_run_of w most parts) → IsTrial w parts most result
    → MatchResult result (λ outcome. outcome.visits ≤ quoted) (λ f. f ≡ fault.OutOfMemory)
within w parts most quoted (Ok outcome) ends is =
    let visits : is.s.visits ≤ quoted = subst (EndsWithin quoted) is.ended ends in
    omega (arith, visits, is.told.visits)
within w parts most quoted (Err fault.OutOfMemory) ends is = refl
within w parts most quoted (Err (fault.Trap at kind)) ends is =
    absurd (subst (EndsWithin quoted) is ends)
within w parts most quoted (Err fault.Limit) ends is = absurd (subst (EndsWithin quoted) is ends)

pub returns : goal.returns
returns c = λ database parts visits result sound limits admissible cheap most is.
    within (world_of database) parts visits (quote (world_of database).size parts) result
    (c.admissible_programs_never_trap.ensures.never_limited (world_of database) parts visits
    (record {
      loaded = c.sound_rows_are_loaded.ensures database sound;
      limits = limits;
      admissible = admissible;
      cheap = omega (arith, cheap, most);
    })
    cheap)
    is
