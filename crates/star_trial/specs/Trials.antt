-- What a trial answers.
use Rattle.std.specs.Prelude.{◌≡◌, ℕ, Result, MatchResult}
use Rattle.star_program.specs.{declared.outcome.Outcome.Outcome, declared.program.Parts.Parts, Run.End, Run.Trapped, Run.Limited, Run.bounded_run_of, World.World}
use Rattle.star_outcome.specs.Yields.{Yields}
use Rattle.star_trial.specs.declared.fault.TrialFault.{TrialFault}
use Rattle.star_trial.specs.declared.fault.TrialFault.TheVariants as fault

-- memory may be refused at any time; a trap and the limit are the run's own
abbrev pub IsFaultOfEnd : End → TrialFault → Type 0
IsFaultOfEnd end fault.OutOfMemory = Unit {0}
IsFaultOfEnd end (fault.Trap at kind) = end ≡ Trapped at kind
IsFaultOfEnd end fault.Limit = end ≡ Limited

-- the result of a trial with at most `visits` visits: the outcome if the bounded run comes to
-- its end, else its trap or the limit
abbrev pub IsTrial : World → Parts → ℕ → Result Outcome TrialFault → Type 0
IsTrial w parts visits result =
    MatchResult result (Yields w parts (bounded_run_of w visits parts))
    (IsFaultOfEnd (bounded_run_of w visits parts))
