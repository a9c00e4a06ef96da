-- What is printed of a file, by what is printed of its program.
use Rattle.std.{proofs.Common.{◌∙◌, ℕ, Bool, true, false, List, ap, subst}, specs.Prelude.{MatchResult, Result, Ok, Err}}
use Rattle.star_schema.specs.{Database.Database, Database.TableTexts, Loadable.IsLoadable, Loadable.database_of}
use Rattle.star_verify.specs.declared.refusal.Refusal.{Refusal}
use Rattle.star_plan.specs.Meaning.{Plan}
use Rattle.star_compile_laws.specs.Compiled.{compiled}
use Rattle.star_program.specs.declared.program.Parts.{Parts}
use Rattle.star_engine.{specs.RunTexts.{IsForecastErrorOfKind, IsForecastOfKind, IsProgramForecast, IsRunOfKind, most_rows_over}, specs.Private.TextSteps.{IsQuoteOfTexts, IsRunErrorOfTexts, IsRunOfTexts}, specs.declared.fault.EngineFault.EngineFault, specs.declared.fault.EngineFault.TheVariants.{Load, Refused}, specs.Answered.{Change, OrMemory}, specs.Executions.{IsProgramRun, IsQuote, quote_over}, specs.Loads.IsLoadError, specs.WithNotes.{IsAnsweredWithNotes, RunText}, specs.Notes.{forecast_line, quote_line}, specs.Queries.IsPlanOf, specs.Questions.IsProgramOfKind, specs.QuoteTexts.{IsErrorOfKind, IsQuoteOfKindOver, IsQuoteErrorOfKind}, specs.Private.QuerySteps.HasProgramLaws, specs.Private.Steps.IsNotVerified, proofs.Executing.fault_of_program, proofs.Loaded.noted_over, proofs.NotedAs.noted_as, proofs.QueryAnswers.{fault_told, report_written}, proofs.QueryFaults.or_memory}
use Rattle.star_engine.specs.declared.fault.EngineFault.TheVariants as engine

-- a file that was not read
pub unread : (is_program : Bool) (most : ℕ) (database : Database) (file : List ℕ)
    (fault : EngineFault) → IsErrorOfKind is_program file fault
    → IsForecastErrorOfKind is_program most database file fault
unread true most database file (engine.Program fault) is = is
unread true most database file _ is = absurd is
unread false most database file (engine.Query fault) is = is
unread false most database file (engine.Plan fault) is = is
unread false most database file _ is = absurd is

-- an answer with other words for its value and its fault
pub matched_as : {A : Type 0} (IsValue IsOther : A → Type 0)
    (IsDue IsOtherDue : EngineFault → Type 0)
    (result : Result A EngineFault) → ((value : A) → IsValue value → IsOther value)
    → ((fault : EngineFault) → IsDue fault → IsOtherDue fault)
    → MatchResult result IsValue (OrMemory IsDue) → MatchResult result IsOther (OrMemory IsOtherDue)
matched_as IsValue IsOther IsDue IsOtherDue (Ok value) as_value as_fault is = as_value value is
matched_as IsValue IsOther IsDue IsOtherDue (Err fault) as_value as_fault is =
    or_memory IsDue IsOtherDue fault as_fault is

module _ (most : ℕ) (database : Database) (file : List ℕ) (program : Parts)
    (laws : (p : Plan) → IsPlanOf file p → HasProgramLaws most database file p) where
  pub quoted : (is_program : Bool) → IsProgramOfKind is_program file program → (text : List ℕ)
      → IsQuote database program text → IsQuoteOfKindOver is_program database file text
  quoted true of_kind text is = record { program = program; of_file = of_kind; holds = is }
  quoted false of_kind text is = record {
    is_query = (of_kind.p, of_kind.meant);
    quoted = is ∙ ap quote_line
        (ap (quote_over database) of_kind.made ∙ (laws of_kind.p of_kind.meant).quoted);
  }

  pub judged : (is_program : Bool) → IsProgramOfKind is_program file program → (text : List ℕ)
      → IsProgramForecast database most program text
      → IsForecastOfKind is_program most database file text
  judged true of_kind text is = record { program = program; of_file = of_kind; holds = is }
  judged false of_kind text is =
      let law = laws of_kind.p of_kind.meant in
      let made = subst (λ m. IsProgramForecast database most m text) of_kind.made is in record {
        fitting = law.accepted.1 made.accepted;
        p = of_kind.p;
        meant = of_kind.meant;
        printed = made.printed
            ∙ ap (λ visits. forecast_line visits (most_rows_over database (compiled of_kind.p)))
            law.quoted;
      }

  pub ran : (is_program : Bool) → IsProgramOfKind is_program file program → (run : RunText)
      → IsProgramRun database most program run → IsRunOfKind is_program most database file run
  ran true of_kind run is = record { program = program; of_file = of_kind; holds = is }
  ran false of_kind run is =
      report_written most database file of_kind.p of_kind.meant (laws of_kind.p of_kind.meant) run
      (subst (λ made. IsProgramRun database most made run) of_kind.made is)

  pub forecast_error : (is_program : Bool) → IsProgramOfKind is_program file program
      → (fault : EngineFault) → IsNotVerified database most program fault
      → IsForecastErrorOfKind is_program most database file fault
  forecast_error true of_kind fault refused =
      fault_of_program most database file program of_kind fault refused
  forecast_error false of_kind fault refused =
      fault_told most database file of_kind.p of_kind.meant (laws of_kind.p of_kind.meant) fault
      (subst (λ made. IsNotVerified database most made fault) of_kind.made refused)

  pub noted : {S N : Type 0} (out : Change S) (notes : Change N)
      (result : Result (Unit {0}) EngineFault) (is_program : Bool)
      → IsProgramOfKind is_program file program
      → IsAnsweredWithNotes out notes (IsQuote database program)
      (IsProgramRun database most program) (IsNotVerified database most program) result
      → IsAnsweredWithNotes out notes (IsQuoteOfKindOver is_program database file)
      (IsRunOfKind is_program most database file)
      (IsForecastErrorOfKind is_program most database file) result
  noted out notes result is_program of_kind is =
      noted_as out notes (IsQuote database program) (IsQuoteOfKindOver is_program database file)
      (IsProgramRun database most program) (IsRunOfKind is_program most database file)
      (IsNotVerified database most program) (IsForecastErrorOfKind is_program most database file)
      result
      (quoted is_program of_kind) (ran is_program of_kind) (forecast_error is_program of_kind) is

-- ---- over five texts

-- the tables can't be loaded
pub unloaded : (is_program : Bool) (rows visits : ℕ) (texts : TableTexts) (file : List ℕ)
    (program : Parts) → IsProgramOfKind is_program file program → (fault : EngineFault)
    → IsLoadError rows texts fault → IsRunErrorOfTexts is_program rows visits texts file fault
unloaded true rows visits texts file program of_kind (Load fault) is = ((program, of_kind), is)
unloaded false rows visits texts file program of_kind (Load fault) is =
    ((of_kind.p, of_kind.meant), is)
unloaded is_program rows visits texts file program of_kind _ is = absurd is

-- or they can, and hold rows over which nothing is printed
pub run_error_over : (is_program : Bool) (rows visits : ℕ) (texts : TableTexts) (file : List ℕ)
    (fault : EngineFault) → IsLoadable rows texts
    → IsForecastErrorOfKind is_program visits (database_of texts) file fault
    → IsRunErrorOfTexts is_program rows visits texts file fault
run_error_over true rows visits texts file (Refused refusal) loadable is =
    record { loadable = loadable; holds = is }
run_error_over true rows visits texts file (engine.Program fault) loadable is = is
run_error_over true rows visits texts file _ loadable is = absurd is
run_error_over false rows visits texts file (Refused refusal) loadable is =
    record { loadable = loadable; holds = is }
run_error_over false rows visits texts file (engine.Query fault) loadable is = is
run_error_over false rows visits texts file (engine.Plan fault) loadable is = is
run_error_over false rows visits texts file _ loadable is = absurd is

pub noted_of_texts : (is_program : Bool) (rows visits : ℕ) (texts : TableTexts) (file : List ℕ)
    {S N : Type 0} (out : Change S) (notes : Change N) (result : Result (Unit {0}) EngineFault)
    → IsLoadable rows texts
    → IsAnsweredWithNotes out notes (IsQuoteOfKindOver is_program (database_of texts) file)
    (IsRunOfKind is_program visits (database_of texts) file)
    (IsForecastErrorOfKind is_program visits (database_of texts) file) result
    → IsAnsweredWithNotes out notes (IsQuoteOfTexts is_program rows texts file)
    (IsRunOfTexts is_program rows visits texts file)
    (IsRunErrorOfTexts is_program rows visits texts file) result
noted_of_texts is_program rows visits texts file out notes result loadable is =
    noted_over rows texts loadable out notes
    (λ database. IsQuoteOfKindOver is_program database file)
    (λ database. IsRunOfKind is_program visits database file)
    (λ database. IsForecastErrorOfKind is_program visits database file)
    (IsRunErrorOfTexts is_program rows visits texts file) result
    (run_error_over is_program rows visits texts file) is

-- a question was not read
pub none : (is_program : Bool) (rows visits : ℕ) (texts : TableTexts) (file : List ℕ)
    (fault : EngineFault) → IsErrorOfKind is_program file fault
    → IsRunErrorOfTexts is_program rows visits texts file fault
none true rows visits texts file (engine.Program fault) is = is
none true rows visits texts file _ is = absurd is
none false rows visits texts file (engine.Query fault) is = is
none false rows visits texts file (engine.Plan fault) is = is
none false rows visits texts file _ is = absurd is

pub never_refused : (is_program : Bool) (file : List ℕ) (refusal : Refusal)
    → ¬ IsErrorOfKind is_program file (Refused refusal)
never_refused true file refusal is = is
never_refused false file refusal is = is

pub unquoted_tables : (is_program : Bool) (rows : ℕ) (texts : TableTexts) (file : List ℕ)
    (program : Parts) → IsProgramOfKind is_program file program → (fault : EngineFault)
    → IsLoadError rows texts fault → IsQuoteErrorOfKind is_program rows texts file fault
unquoted_tables true rows texts file program of_kind (Load fault) is = ((program, of_kind), is)
unquoted_tables false rows texts file program of_kind (Load fault) is =
    ((of_kind.p, of_kind.meant), is)
unquoted_tables is_program rows texts file program of_kind _ is = absurd is

pub unquoted_none : (is_program : Bool) (rows : ℕ) (texts : TableTexts) (file : List ℕ)
    (fault : EngineFault) → IsErrorOfKind is_program file fault
    → IsQuoteErrorOfKind is_program rows texts file fault
unquoted_none true rows texts file (engine.Program fault) is = is
unquoted_none true rows texts file _ is = absurd is
unquoted_none false rows texts file (engine.Query fault) is = is
unquoted_none false rows texts file (engine.Plan fault) is = is
unquoted_none false rows texts file _ is = absurd is
