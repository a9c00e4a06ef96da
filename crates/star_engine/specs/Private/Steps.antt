-- The errors of the steps before anything is written.
use Rattle.std.specs.Prelude.{◌≡◌, ◌⊎◌, ℕ, List, Result, Ok, Err, length}
use Rattle.star_program.specs.declared.program.Parts.{Parts}
use Rattle.star_schema.specs.Database.{Database}
use Rattle.star_engine.specs.{declared.fault.EngineFault.EngineFault, declared.fault.EngineFault.TheVariants.{OutOfMemory, Refused, Write}, Answered.{Change, HasGained, HasGainedPart, IsUntouched}, Executions.IsRefusal}

-- only out of memory
abbrev pub IsMemory : EngineFault → Type 0
IsMemory OutOfMemory = Unit {0}
IsMemory fault = ⊥

-- the error of the check of a program over loaded tables
abbrev pub IsNotVerified : Database → ℕ → Parts → EngineFault → Type 0
IsNotVerified database most program (Refused refusal) = IsRefusal database most program refusal
IsNotVerified database most program _ = ⊥

-- ---- writing

-- some first bytes of a note were written
abbrev pub IsPart : {N : Type 0} → Change N → List ℕ → Type 0
IsPart notes note = (noted : ℕ) × HasGainedPart notes note noted

-- the result of making a report and a note and writing one after the other: which write failed, if
-- one did
abbrev pub AreBothWritten : {S N : Type 0} → Change S → Change N → List ℕ → List ℕ
    → Result (Unit {0}) EngineFault → Type 0
AreBothWritten out notes report done (Ok answer) = HasGained out report × HasGained notes done
AreBothWritten out notes report done (Err OutOfMemory) = IsUntouched out × IsUntouched notes
AreBothWritten out notes report done (Err (Write sent)) =
    (HasGainedPart out report sent × IsUntouched notes)
    ⊎ (HasGained out report × (sent ≡ length report) × IsPart notes done)
AreBothWritten out notes report done (Err fault) = ⊥
