-- What a merge writes.
use Rattle.std.specs.Prelude.{◌≡◌, ◌⊎◌, ℕ, List, Result, Ok, Err}
use Rattle.star_plan.specs.Meaning.{Plan}
use Rattle.star_program.specs.declared.outcome.Outcome.{Outcome}
use Rattle.star_partial.specs.Contents.{Contents}
use Rattle.star_report.specs.Report.{report_text}
use Rattle.star_verify.specs.declared.refusal.Refusal.{Refusal}
use Rattle.star_engine.specs.{declared.fault.EngineFault.EngineFault, declared.fault.EngineFault.TheVariants.Write, Answered.Change, Answered.HasGained, Faults.fault_of_refusal, WithNotes.RunText, Notes.counts_line, Private.Steps.IsPart}
use Rattle.star_merger.specs.{declared.fault.PartialsFault.PartialsFault, declared.fault.PartialsFault.TheVariants.Engine, Private.Outcomes.IsMergedOutcome}

-- the text of an outcome, with the note of its quote
abbrev pub run_text_of : (note : List ℕ) → Outcome → RunText
run_text_of note outcome =
    record {
      quoted = note;
      report = report_text outcome.names outcome.rows;
      done = counts_line outcome.visits outcome.lookups outcome.updates;
    }

-- it is the text of a merged outcome
pub record IsMergedTelling (p : Plan) (all : List Contents) (count : ℕ) (note : List ℕ)
    (run : RunText) : Type 0 where
  pub outcome : Outcome
  pub merged : IsMergedOutcome p all count outcome
  pub told : run ≡ run_text_of note outcome

-- the refusal of a program after a note; or the note was not written whole
abbrev pub IsRefusedAfter : {N : Type 0} → Change N → (note : List ℕ) → Refusal
    → Result (Unit {0}) EngineFault → Type 0
IsRefusedAfter notes note refusal (Ok answer) = ⊥
IsRefusedAfter notes note refusal (Err fault) =
    (fault ≡ fault_of_refusal refusal) × HasGained notes note
    ⊎ (fault ≡ Write 0) × IsPart notes note

-- an error of the engine as one of a merge
abbrev pub as_merge : Result (Unit {0}) EngineFault → Result (Unit {0}) PartialsFault
as_merge (Ok answer) = Ok answer
as_merge (Err fault) = Err (Engine fault)
