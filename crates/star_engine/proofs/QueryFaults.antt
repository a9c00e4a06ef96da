-- The faults of the steps of an answer to a query, and when they are due.
use Rattle.std.specs.Prelude.{MatchResult, Result, Ok, Err}
use Rattle.star_engine.specs.{Answered.OrMemory, declared.fault.EngineFault.EngineFault, Private.Steps.IsMemory}
use Rattle.star_engine.specs.declared.fault.EngineFault.TheVariants as engine

-- a step's faults are due where each of them is
pub or_memory : (IsDue IsAlso : EngineFault → Type 0) (fault : EngineFault)
    → ((fault : EngineFault) → IsDue fault → IsAlso fault) → OrMemory IsDue fault
    → OrMemory IsAlso fault
or_memory IsDue IsAlso engine.OutOfMemory each due = tt
or_memory IsDue IsAlso (engine.Write sent) each due = absurd due
or_memory IsDue IsAlso fault each due = each fault due

-- and where none is, memory was refused
pub matched_or_memory : {A : Type 0} (Is : A → Type 0) (IsDue : EngineFault → Type 0)
    (result : Result A EngineFault) → ((fault : EngineFault) → ¬ IsDue fault)
    → MatchResult result Is (OrMemory IsDue) → MatchResult result Is IsMemory
matched_or_memory Is IsDue (Ok value) never is = is
matched_or_memory Is IsDue (Err engine.OutOfMemory) never is = tt
matched_or_memory Is IsDue (Err (engine.Write sent)) never is = absurd is
matched_or_memory Is IsDue (Err fault) never is = absurd (never fault is)
