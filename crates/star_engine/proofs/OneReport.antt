-- A file's report over some tables is one, and where it is due, no fault is.
use Rattle.std.proofs.Common.{◌≡◌, ◌∙◌, ℕ, List, subst, sym}
use Rattle.star_schema.specs.{Loadable.database_of, Database.Database, Database.TableTexts}
use Rattle.star_program.{specs.declared.outcome.Outcome.Outcome, specs.declared.program.Parts.Parts, specs.Outcome.IsOutcome, specs.Run.{End, bounded_run_of}, specs.World.World, proofs.Text.OneProgram.one_program, proofs.Text.Faultless.never_both}
use Rattle.star_report.{specs.Report.report_text, proofs.OneOrder.one_outcome}
use Rattle.star_outcome.specs.Yields.{Yields}
use Rattle.star_world.specs.WorldOf.{world_of}
use Rattle.star_engine.specs.{Executions.{IsAcceptedWithin, IsFileReport, IsRunError, IsRunErrorOver, IsRunOf, IsRunOver}, declared.fault.EngineFault.TheVariants.{Load, Program, Refused}, declared.fault.EngineFault.EngineFault, WithNotes.RunText, Trials.IsBoundedReport}

-- a run that comes to its end has one outcome
yields_one : (w : World) (parts : Parts) (end : End) (a b : Outcome) → Yields w parts end a
    → Yields w parts end b → a ≡ b
yields_one w parts end a b h k =
    let same : h.s ≡ k.s = cc (h.ended, k.ended) in
    one_outcome w parts k.s a b (subst (λ s. IsOutcome w parts s a) same h.told) k.told

pub report_is_one : (database : Database) (file : List ℕ) (visits : ℕ) (report other : List ℕ)
    → IsBoundedReport database file visits report → IsBoundedReport database file visits other
    → report ≡ other
report_is_one database file visits report other h k =
    let w = world_of database in
    let program = one_program file h.program k.program h.of_file.spelled k.of_file.spelled in
    let yields = subst (λ p. Yields w p (bounded_run_of w visits p) h.outcome) program h.yields in
    let outcome = yields_one w k.program (bounded_run_of w visits k.program) h.outcome k.outcome
    yields k.yields in
    h.printed ∙ (λ i. report_text (outcome i).names (outcome i).rows) ∙ sym k.printed

-- the report alone of what is printed
pub file_report : (rows visits : ℕ) (texts : TableTexts) (file : List ℕ) (run : RunText)
    → IsRunOf rows visits texts file run → IsFileReport rows texts file run.report
file_report rows visits texts file run of_texts = let told = of_texts.holds in record {
  loadable = of_texts.loadable;
  holds = record {
    program = told.program;
    of_file = told.of_file;
    holds = record {
      outcome = told.holds.outcome;
      yields = told.holds.yields;
      printed = told.holds.reported;
    };
  };
}

-- ---- what is printed is not refused

pub run_is_no_error : (visits : ℕ) (database : Database) (file : List ℕ)
    (run : RunText) (fault : EngineFault) → IsRunOver visits database file run
    → IsRunErrorOver visits database file fault → ⊥
run_is_no_error visits database file run (Program fault) told due =
    never_both file fault told.program due told.of_file.spelled told.of_file.limits
run_is_no_error visits database file run (Refused refusal) told due =
    due.holds.not_accepted (subst (IsAcceptedWithin database visits)
    (one_program file told.program due.program told.of_file.spelled due.of_file.spelled)
    told.holds.accepted)
run_is_no_error visits database file run _ told due = due

-- over texts
pub run_of_texts_is_no_error : (most visits : ℕ) (texts : TableTexts) (file : List ℕ)
    (run : RunText) (fault : EngineFault) → IsRunOf most visits texts file run
    → IsRunError most visits texts file fault → ⊥
run_of_texts_is_no_error most visits texts file run (Load fault) told due =
    due.1.not_loadable told.loadable
run_of_texts_is_no_error most visits texts file run (Program fault) told due =
    run_is_no_error visits (database_of texts) file run (Program fault) told.holds due
run_of_texts_is_no_error most visits texts file run (Refused refusal) told due =
    run_is_no_error visits (database_of texts) file run (Refused refusal) told.holds
    due.holds
run_of_texts_is_no_error most visits texts file run _ told due = due
