-- The result of a call that writes a text: the whole text that is due, or an error.
use Rattle.std.specs.{Prelude.{◌≡◌, ◌<◌, ℕ, List, Option, Bool, true, false, Result, Ok, Err, length, take}, Io.KnownBytes.Appends}
use Rattle.star_engine.specs.{declared.fault.EngineFault.EngineFault, declared.fault.EngineFault.TheVariants.OutOfMemory, declared.fault.EngineFault.TheVariants.Write}

-- a sink before and after a call, with the bytes that such a sink holds, if they are known, and
-- whether a write to it has failed
pub record Change (S : Type 0) : Type 0 where
  pub contents : S → Option (List ℕ)
  pub is_failed : S → Bool
  pub old : S
  pub new : S

abbrev pub change : {S : Type 0} → (S → Option (List ℕ)) → (S → Bool) → S → S → Change S
change contents is_failed old new =
    record { contents = contents; is_failed = is_failed; old = old; new = new }

-- an error that is due, or out of memory; and no write has failed
abbrev pub OrMemory : (EngineFault → Type 0) → EngineFault → Type 0
OrMemory IsDue OutOfMemory = Unit {0}
OrMemory IsDue (Write sent) = ⊥
OrMemory IsDue fault = IsDue fault

abbrev pub IsUntouched : {S : Type 0} → Change S → Type 0
IsUntouched sink = sink.new ≡ sink.old

-- the sink has gained a whole text, and has not failed
pub record HasGained {S : Type 0} (sink : Change S) (text : List ℕ) : Type 0 where
  pub gained : Appends (sink.contents sink.old) (sink.contents sink.new) text
  pub not_failed : sink.is_failed sink.new ≡ false

-- the sink has gained the first `sent` bytes of a text, not all, and has failed
pub record HasGainedPart {S : Type 0} (sink : Change S) (text : List ℕ) (sent : ℕ)
    : Type 0 where
  pub part : sent < length text
  pub gained : Appends (sink.contents sink.old) (sink.contents sink.new) (take sent text)
  pub failed : sink.is_failed sink.new ≡ true

-- a whole text was written, or its first bytes
abbrev pub IsWritten : {S : Type 0} → Change S → List ℕ → Result (Unit {0}) EngineFault → Type 0
IsWritten sink text (Ok answer) = HasGained sink text
IsWritten sink text (Err (Write sent)) = HasGainedPart sink text sent
IsWritten sink text (Err fault) = ⊥

-- the result of a call that writes a text to a sink. On Ok the sink has gained a whole text that is
-- due. Out of memory may be returned at any time before anything is written. A failed write is
-- returned with the number of bytes of such a text that were sent. Any other error is one that is
-- due, and the sink is unchanged
abbrev pub IsAnswered : {S A : Type 0} → Change S → (List ℕ → Type 0) → (EngineFault → Type 0)
    → Result A EngineFault → Type 0
IsAnswered sink IsText IsDue (Ok answer) = (text : List ℕ) × IsText text × HasGained sink text
IsAnswered sink IsText IsDue (Err OutOfMemory) = IsUntouched sink
IsAnswered sink IsText IsDue (Err (Write sent)) =
    (text : List ℕ) × IsText text × HasGainedPart sink text sent
IsAnswered sink IsText IsDue (Err fault) = IsDue fault × IsUntouched sink

-- ---- the same, clause by clause

-- the sink has gained a whole text that is due
abbrev pub HasWritten : {S : Type 0} → Change S → (List ℕ → Type 0) → Type 0
HasWritten sink IsText = (text : List ℕ) × IsText text × HasGained sink text

-- after a failed write: the sink has gained as many bytes of a text that is due as the error says
abbrev pub IsBrokenOff : {S : Type 0} → Change S → (List ℕ → Type 0) → EngineFault → Type 0
IsBrokenOff sink IsText (Write sent) =
    (text : List ℕ) × IsText text × HasGainedPart sink text sent
IsBrokenOff sink IsText _ = Unit {0}

-- for any error but a failed write and out of memory: it is due, and the sink is unchanged
abbrev pub IsRefused : {S : Type 0} → Change S → (EngineFault → Type 0) → EngineFault → Type 0
IsRefused sink IsDue OutOfMemory = Unit {0}
IsRefused sink IsDue (Write sent) = Unit {0}
IsRefused sink IsDue fault = IsDue fault × IsUntouched sink
