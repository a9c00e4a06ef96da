-- The steps of a report that is kept and printed.
use Rattle.std.specs.Prelude.{◌≡◌, ◌⊎◌, ℕ, List, Bool, false, Result, Ok, Err}
use Rattle.star_engine.specs.{declared.fault.EngineFault.EngineFault, Answered.Change, Answered.HasGained, Answered.HasGainedPart, Answered.IsUntouched, WithNotes.RunText}
use Rattle.star_service.specs.{ReportSinks.{HasFailedAt, HasStored, HasStoredNone, SinkChange}, Reports.{refused_line, run_line}, declared.reports.Halt.Halt, declared.reports.Halt.TheVariants.{OutOfMemory, Unstored, Unwritten}}

-- a line was written, or its first bytes
abbrev pub IsLineWritten : {S : Type 0} → Change S → List ℕ → Result (Unit {0}) Halt → Type 0
IsLineWritten out line (Ok answer) = HasGained out line
IsLineWritten out line (Err (Unwritten sent)) = HasGainedPart out line sent
IsLineWritten out line (Err halt) = ⊥

-- a report was kept, and its line printed
abbrev pub IsStoredAndPrinted : {K S : Type 0} → (name : List ℕ) → RunText → SinkChange K → Change S
    → Result (Unit {0}) Halt → Type 0
IsStoredAndPrinted name run sink out (Ok answer) =
    HasStored sink name run.report × HasGained out (run_line name run)
IsStoredAndPrinted name run sink out (Err OutOfMemory) =
    IsUntouched out × (HasStoredNone sink ⊎ HasStored sink name run.report)
IsStoredAndPrinted name run sink out (Err (Unstored named sent)) =
    IsUntouched out × HasFailedAt sink run.report sent × (named.now ≡ name)
IsStoredAndPrinted name run sink out (Err (Unwritten sent)) =
    HasStored sink name run.report × HasGainedPart out (run_line name run) sent

-- the line of a fault was printed
abbrev pub IsRefusalPrinted : {S : Type 0} → (name : List ℕ) → EngineFault → Change S
    → Result Bool Halt → Type 0
IsRefusalPrinted name fault out (Ok answered) =
    (answered ≡ false) × HasGained out (refused_line name fault)
IsRefusalPrinted name fault out (Err OutOfMemory) = IsUntouched out
IsRefusalPrinted name fault out (Err (Unstored named sent)) = ⊥
IsRefusalPrinted name fault out (Err (Unwritten sent)) =
    HasGainedPart out (refused_line name fault) sent
