-- What is printed of a program that is checked and then run.
use Rattle.std.{proofs.Common.{◌≡◌, ◌≤◌, ◌<◌, ℕ, List, Some, None, arith, inl, inr, length, refl, ◌∙◌}, specs.Prelude.◌↔◌}
use Rattle.star_common.specs.Memory.{UnlessMemory}
use Rattle.star_schema.specs.{declared.table.TableId.TableId, Database.Database, Tables.Value}
use Rattle.star_program.specs.{declared.program.Parts.Parts, Text.Written.written_line, Text.Written.program_text}
use Rattle.star_partial.specs.Listing.{listing_text, table_line, table_text}
use Rattle.star_safety.specs.Admissible.{first_refusal, IsAdmissible}
use Rattle.star_verify.specs.{declared.refusal.Refusal.Refusal, Views.refusal_view}
use Rattle.star_world.specs.WorldOf.{world_of}
use Rattle.star_engine.{specs.Executions.{IsProgramRun, IsRefusal, IsRunErrorOver, quote_over}, specs.declared.fault.EngineFault.EngineFault, specs.declared.fault.EngineFault.TheVariants.Refused, specs.Answered.OrMemory, specs.Faults.fault_of_refusal, specs.Listing.listing_of, specs.Loads.IsProgramOf, specs.Notes.{counts_line, quote_line}, specs.Private.Steps.IsNotVerified, specs.WithNotes.RunText, proofs.Trials.report_some}
use Rattle.star_safety.specs.Admissible as admissible
use Rattle.star_verify.specs.declared.refusal.Refusal.TheVariants as why

-- ---- texts have bytes

pub listing_some : (rows : TableId → List (List Value)) → 0 < length (listing_of rows)
unfolding listing_of listing_text table_text table_line
listing_some rows = omega arith

pub program_text_some : (p : Parts) → 0 < length (program_text p)
unfolding program_text written_line
program_text_some p = omega arith

pub quote_some : (visits : ℕ) → 0 < length (quote_line visits)
unfolding quote_line
quote_some visits = omega arith

counts_some : (visits lookups updates : ℕ) → 0 < length (counts_line visits lookups updates)
unfolding counts_line
counts_some visits lookups updates = omega arith

-- so do what a run prints
pub report_has_bytes : (database : Database) (most : ℕ) (program : Parts) (run : RunText)
    → IsProgramRun database most program run → 0 < length run.report
report_has_bytes database most program run told =
    rw told.reported (report_some told.outcome.names told.outcome.rows)

pub note_has_bytes : (database : Database) (most : ℕ) (program : Parts) (run : RunText)
    → IsProgramRun database most program run → 0 < length run.done
note_has_bytes database most program run told =
    let outcome = told.outcome in
    rw told.done (counts_some outcome.visits outcome.lookups outcome.updates)

-- ---- the check

-- nothing refuses a program exactly where it is accepted
abbrev RefusedByNone : Database → ℕ → Parts → Type 0
RefusedByNone database most program =
    (first_refusal (world_of database) most program ≡ None)
    ↔ (IsAdmissible (world_of database) program × (quote_over database program ≤ most))

refusal_of : (database : Database) (most : ℕ) (program : Parts) (refusal : Refusal)
    (shown : admissible.Refusal) → RefusedByNone database most program
    → (refusal ≡ why.OutOfMemory → ⊥) → UnlessMemory why.OutOfMemory refusal
    (first_refusal (world_of database) most program ≡ refusal_view refusal)
    → refusal_view refusal ≡ Some shown → IsRefusal database most program refusal
refusal_of database most program refusal shown none other is told =
    elim is [
      | inl memory ↦ absurd (other memory)
      | inr same ↦
          (let first = same ∙ told in record {
            not_accepted = λ yes. let is = none.1 (yes.admissible, yes.cheap) in cc;
            shown = shown;
            first = first;
            told = told;
          })
    ]

-- the error of the check is the first refusal of the program
pub refused : (database : Database) (most : ℕ) (program : Parts) (refusal : Refusal)
    → RefusedByNone database most program → UnlessMemory why.OutOfMemory refusal
    (first_refusal (world_of database) most program ≡ refusal_view refusal)
    → OrMemory (IsNotVerified database most program) (fault_of_refusal refusal)
refused database most program why.OutOfMemory none is = tt
refused database most program (why.TooCostly visits) none is =
    refusal_of database most program (why.TooCostly visits) _ none (λ memory. cc) is refl
refused database most program (why.Refused at reason) none is =
    refusal_of database most program (why.Refused at reason) _ none (λ memory. cc) is refl
refused database most program (why.BadShow index) none is =
    refusal_of database most program (why.BadShow index) _ none (λ memory. cc) is refl

-- ---- the program of a file

module _ (visits : ℕ) (database : Database) (file : List ℕ) (program : Parts)
    (spelled : IsProgramOf file program) where
  pub fault_of_program : (fault : EngineFault) → IsNotVerified database visits program fault
      → IsRunErrorOver visits database file fault
  fault_of_program (Refused refusal) refused =
      record { program = program; of_file = spelled; holds = refused }
  fault_of_program _ refused = absurd refused
