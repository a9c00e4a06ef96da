-- What a call answers, by its last step, and clause by clause.
use Rattle.std.{proofs.Common.{◌≡◌, ℕ, List, refl}, specs.Prelude.{Result, Ok, Err, IfErr, OnOk}}
use Rattle.star_engine.specs.{Answered.{Change, HasWritten, IsAnswered, IsBrokenOff, IsRefused, IsUntouched, IsWritten, OrMemory}, declared.fault.EngineFault.TheVariants.{OutOfMemory, Refused, Write}, WithNotes.{HasWrittenRun, IsAnsweredWithNotes, IsRunBrokenOff, IsRunRefused, IsRunUnwritten, RunText}, declared.fault.EngineFault.EngineFault}

-- a fault of a step before anything is written
pub stopped : {S : Type 0} (A : Type 0) (sink : Change S) (IsText : List ℕ → Type 0)
    (IsDue : EngineFault → Type 0) (fault : EngineFault) → IsUntouched sink
    → OrMemory IsDue fault → IsAnswered {A = A} sink IsText IsDue (Err fault)
stopped A sink IsText IsDue OutOfMemory same due = same
stopped A sink IsText IsDue (Write sent) same due = absurd due
stopped A sink IsText IsDue fault same due = (due, same)

-- the text that was written is due
pub written : {S : Type 0} (sink : Change S) (text : List ℕ) (IsText : List ℕ → Type 0)
    (IsDue : EngineFault → Type 0) (result : Result (Unit {0}) EngineFault) → IsText text
    → IsWritten sink text result → IsAnswered sink IsText IsDue result
written sink text IsText IsDue (Ok answer) due gained = (text, due, gained)
written sink text IsText IsDue (Err (Write sent)) due part = (text, due, part)
written sink text IsText IsDue (Err _) due never = absurd never

-- ---- a text

module _ {S A : Type 0} (sink : Change S) (IsText : List ℕ → Type 0)
    (IsDue : EngineFault → Type 0) where
  pub by_clauses : (result : Result A EngineFault) → IsAnswered sink IsText IsDue result
      → OnOk result (HasWritten sink IsText) × IfErr result (IsBrokenOff sink IsText)
      × IfErr result (IsRefused sink IsDue) × (result ≡ Err OutOfMemory → IsUntouched sink)
  by_clauses (Ok answer) is = (is, tt, tt, λ same. cc)
  by_clauses (Err OutOfMemory) is = (tt, tt, tt, λ same. is)
  by_clauses (Err (Write sent)) is = (tt, is, tt, λ same. cc)
  by_clauses (Err fault) is = (tt, tt, is, λ same. cc)

  -- of a fault before anything is written
  pub stopped_by_clauses : (fault : EngineFault) (result : Result A EngineFault)
      → result ≡ Err fault → IsUntouched sink → OrMemory IsDue fault
      → OnOk result (HasWritten sink IsText) × IfErr result (IsBrokenOff sink IsText)
      × IfErr result (IsRefused sink IsDue) × (result ≡ Err OutOfMemory → IsUntouched sink)
  stopped_by_clauses fault result is same due =
      by_clauses result (rw is (stopped A sink IsText IsDue fault same due))

  pub is_answered : (result : Result A EngineFault) → OnOk result (HasWritten sink IsText)
      → IfErr result (IsBrokenOff sink IsText) → IfErr result (IsRefused sink IsDue)
      → (result ≡ Err OutOfMemory → IsUntouched sink) → IsAnswered sink IsText IsDue result
  is_answered (Ok answer) written broken refused memory = written
  is_answered (Err OutOfMemory) written broken refused memory = memory refl
  is_answered (Err (Write sent)) written broken refused memory = broken
  is_answered (Err fault) written broken refused memory = refused

-- ---- a report with its notes, and the report alone

pub run_by_clauses : {S N : Type 0} (out : Change S) (notes : Change N) (IsQuote : List ℕ → Type 0)
    (IsRun : RunText → Type 0) (IsDue : EngineFault → Type 0) (IsReport : List ℕ → Type 0)
    → ((run : RunText) → IsRun run → IsReport run.report) → (result : Result (Unit {0}) EngineFault)
    → IsAnsweredWithNotes out notes IsQuote IsRun IsDue result
    → OnOk result (HasWritten out IsReport) × OnOk result (HasWrittenRun out notes IsRun)
    × IfErr result (IsRunBrokenOff out notes IsQuote IsRun)
    × IfErr result (IsRunRefused out notes IsQuote IsDue)
    × (result ≡ Err OutOfMemory → IsRunUnwritten out notes IsQuote)
run_by_clauses out notes IsQuote IsRun IsDue IsReport reported (Ok answer) is =
    ((is.0.report, reported is.0 is.1, is.2), is, tt, tt, λ same. cc)
run_by_clauses out notes IsQuote IsRun IsDue IsReport reported (Err OutOfMemory) is =
    (tt, tt, tt, tt, λ same. is)
run_by_clauses out notes IsQuote IsRun IsDue IsReport reported (Err (Write sent)) is =
    (tt, tt, is, tt, λ same. cc)
run_by_clauses out notes IsQuote IsRun IsDue IsReport reported (Err (Refused refusal)) is =
    (tt, tt, tt, is, λ same. cc)
run_by_clauses out notes IsQuote IsRun IsDue IsReport reported (Err fault) is =
    (tt, tt, tt, is, λ same. cc)
