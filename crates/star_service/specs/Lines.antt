-- The lines of faults, the exit status of each, and the bytes that a sink gains of a printed text.
use Rattle.std.specs.Prelude.{◌≡◌, ◌++◌, ◌⊎◌, ℕ, List, [], codes}
use Rattle.star_engine.specs.{declared.fault.EngineFault.EngineFault, Answered.Change, Answered.HasGained, Answered.HasGainedPart, Answered.IsUntouched, FaultTexts.engine_fault_text}
use Rattle.star_engine.specs.declared.fault.EngineFault.TheVariants as engine

-- of a fault of the engine
unfoldable pub fault_line : EngineFault → List ℕ
fault_line fault = engine_fault_text fault ++ codes "\n"

abbrev pub fault_status : EngineFault → ℕ
fault_status (engine.Refused refusal) = 1
fault_status (engine.Trial fault) = 1
fault_status (engine.Load fault) = 3
fault_status (engine.Query fault) = 4
fault_status (engine.Plan fault) = 4
fault_status (engine.Program fault) = 5
fault_status (engine.Write sent) = 6
fault_status engine.OutOfMemory = 7

-- a sink has gained a whole text; or its first bytes, and is failed; nothing is written of no text
abbrev pub IsTextPrinted : {S : Type 0} → Change S → List ℕ → Type 0
IsTextPrinted sink text = ((text ≡ []) × IsUntouched sink)
    ⊎ (HasGained sink text ⊎ ((sent : ℕ) × HasGainedPart sink text sent))

-- a fault is printed with its status, or out of memory if there is none for its line
abbrev pub IsFaultPrinted : {S : Type 0} → Change S → EngineFault → ℕ → Type 0
IsFaultPrinted err fault status = (printed : EngineFault)
    × ((printed ≡ fault) ⊎ (printed ≡ engine.OutOfMemory))
    × IsTextPrinted err (fault_line printed) × (status ≡ fault_status printed)
