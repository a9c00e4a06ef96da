-- The result of a call that runs a program: its report goes to one sink, a note before it and one
-- after it to another.
use Rattle.std.specs.Prelude.{◌≡◌, ◌≤◌, ◌++◌, ◌⊎◌, ℕ, List, Result, Ok, Err, length}
use Rattle.star_engine.specs.{declared.fault.EngineFault.EngineFault, declared.fault.EngineFault.TheVariants.{OutOfMemory, Refused, Write}, Answered.{Change, HasGained, HasGainedPart, IsUntouched}}

-- the text of a run: the note of the quote, the report, and the note of the counts
pub record RunText : Type 0 where
  pub quoted : List ℕ
  pub report : List ℕ
  pub done : List ℕ

-- the note of the quote was written, and nothing else
abbrev pub HasGainedQuote : {N : Type 0} → Change N → (List ℕ → Type 0) → Type 0
HasGainedQuote notes IsQuote = (quoted : List ℕ) × IsQuote quoted × HasGained notes quoted

-- which write failed, and how many bytes of the report were sent
pub data IsBroken {S N : Type 0} (out : Change S) (notes : Change N) (IsQuote : List ℕ → Type 0)
    (IsRun : RunText → Type 0) (sent : ℕ) : Type 0 where
  -- the write of the quote's note
  BeforeTheReport : (quoted : List ℕ) → IsQuote quoted → (noted : ℕ)
      → HasGainedPart notes quoted noted → IsUntouched out → sent ≡ 0
      → IsBroken out notes IsQuote IsRun sent
  InTheReport : (run : RunText) → IsRun run → HasGained notes run.quoted
      → HasGainedPart out run.report sent → IsBroken out notes IsQuote IsRun sent
  -- the write of the last note
  AfterTheReport : (run : RunText) → IsRun run → (noted : ℕ) → length run.quoted ≤ noted
      → HasGainedPart notes (run.quoted ++ run.done) noted → HasGained out run.report
      → sent ≡ length run.report → IsBroken out notes IsQuote IsRun sent

-- On Ok both sinks have gained the whole text of a run. Every error but a failed write leaves the
-- report's sink unchanged. A refusal of the program is returned after the note of its quote, out of
-- memory after it or before all notes, and any other error that is due before all notes
abbrev pub IsAnsweredWithNotes : {S N : Type 0} → Change S → Change N → (List ℕ → Type 0)
    → (RunText → Type 0) → (EngineFault → Type 0) → Result (Unit {0}) EngineFault → Type 0
IsAnsweredWithNotes out notes IsQuote IsRun IsDue (Ok answer) =
    (run : RunText) × IsRun run × HasGained out run.report
    × HasGained notes (run.quoted ++ run.done)
IsAnsweredWithNotes out notes IsQuote IsRun IsDue (Err OutOfMemory) =
    IsUntouched out × (IsUntouched notes ⊎ HasGainedQuote notes IsQuote)
IsAnsweredWithNotes out notes IsQuote IsRun IsDue (Err (Write sent)) =
    IsBroken out notes IsQuote IsRun sent
IsAnsweredWithNotes out notes IsQuote IsRun IsDue (Err (Refused refusal)) =
    IsDue (Refused refusal) × IsUntouched out × HasGainedQuote notes IsQuote
IsAnsweredWithNotes out notes IsQuote IsRun IsDue (Err fault) =
    IsDue fault × IsUntouched out × IsUntouched notes

-- ---- the same, clause by clause

-- both sinks have gained the whole text of a run
abbrev pub HasWrittenRun : {S N : Type 0} → Change S → Change N → (RunText → Type 0) → Type 0
HasWrittenRun out notes IsRun =
    (run : RunText) × IsRun run × HasGained out run.report
    × HasGained notes (run.quoted ++ run.done)

-- after a failed write: both sinks have gained what was written before it, and nothing else
abbrev pub IsRunBrokenOff : {S N : Type 0} → Change S → Change N → (List ℕ → Type 0)
    → (RunText → Type 0) → EngineFault → Type 0
IsRunBrokenOff out notes IsQuote IsRun (Write sent) = IsBroken out notes IsQuote IsRun sent
IsRunBrokenOff out notes IsQuote IsRun _ = Unit {0}

-- for any error but a failed write and out of memory: it is due, and nothing of the report is
-- written; a refusal is returned after the note of the quote, any other error before all notes
abbrev pub IsRunRefused : {S N : Type 0} → Change S → Change N → (List ℕ → Type 0)
    → (EngineFault → Type 0) → EngineFault → Type 0
IsRunRefused out notes IsQuote IsDue OutOfMemory = Unit {0}
IsRunRefused out notes IsQuote IsDue (Write sent) = Unit {0}
IsRunRefused out notes IsQuote IsDue (Refused refusal) =
    IsDue (Refused refusal) × IsUntouched out × HasGainedQuote notes IsQuote
IsRunRefused out notes IsQuote IsDue fault =
    IsDue fault × IsUntouched out × IsUntouched notes

-- if memory runs out: nothing of the report is written, and at most the note of the quote
abbrev pub IsRunUnwritten : {S N : Type 0} → Change S → Change N → (List ℕ → Type 0) → Type 0
IsRunUnwritten out notes IsQuote = IsUntouched out × (IsUntouched notes
    ⊎ HasGainedQuote notes IsQuote)
