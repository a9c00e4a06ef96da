-- The text of a program that is verified and then run over five tables.
use Rattle.std.specs.Prelude.{◌≡◌, ◌≤◌, ℕ, List, Some}
use Rattle.star_schema.specs.Database.{Database, TableTexts}
use Rattle.star_program.specs.{declared.outcome.Outcome.Outcome, declared.program.Parts.Parts, Run.run_of}
use Rattle.star_safety.specs.{Admissible.IsAdmissible, Admissible.first_refusal, Quote.quote}
use Rattle.star_verify.specs.{declared.refusal.Refusal.Refusal, Views.refusal_view}
use Rattle.star_outcome.specs.Yields.{Yields}
use Rattle.star_report.specs.Report.{report_text}
use Rattle.star_world.specs.WorldOf.{world_of}
use Rattle.star_engine.specs.{declared.fault.EngineFault.EngineFault, declared.fault.EngineFault.TheVariants.Refused, Loads.HoldsOfFile, Loads.HoldsOfRows, Loads.IsProgramError, Loads.IsProgramInputError, WithNotes.RunText, Notes.counts_line, Notes.quote_line}
use Rattle.star_safety.specs.Admissible as admissible

-- the quote of a program over these tables
abbrev pub quote_over : Database → Parts → ℕ
quote_over database program = quote (world_of database).size program

-- the note of the quote
abbrev pub IsQuote : Database → Parts → List ℕ → Type 0
IsQuote database program text = text ≡ quote_line (quote_over database program)

-- a program is accepted over these tables if `most` visits are allowed
pub record IsAcceptedWithin (database : Database) (most : ℕ) (program : Parts) : Type 0 where
  pub admissible : IsAdmissible (world_of database) program
  pub cheap : quote_over database program ≤ most

-- its first refusal
pub record IsRefusal (database : Database) (most : ℕ) (program : Parts) (refusal : Refusal)
    : Type 0 where
  pub not_accepted : ¬ IsAcceptedWithin database most program
  pub shown : admissible.Refusal
  pub first : first_refusal (world_of database) most program ≡ Some shown
  pub told : refusal_view refusal ≡ Some shown

-- the printed report of a program's run over these tables
pub record IsRunReport (database : Database) (program : Parts) (report : List ℕ) : Type 0 where
  pub outcome : Outcome
  pub yields : Yields (world_of database) program (run_of (world_of database) program) outcome
  pub printed : report ≡ report_text outcome.names outcome.rows

-- the text of an accepted program: its quote, the printed report of its run, which makes no more
-- visits than that, and the run's counts
pub record IsProgramRun (database : Database) (most : ℕ) (program : Parts) (run : RunText)
    : Type 0 where
  pub accepted : IsAcceptedWithin database most program
  pub outcome : Outcome
  pub yields : Yields (world_of database) program (run_of (world_of database) program) outcome
  pub within : outcome.visits ≤ quote_over database program
  pub quoted : IsQuote database program run.quoted
  pub reported : run.report ≡ report_text outcome.names outcome.rows
  pub done : run.done ≡ counts_line outcome.visits outcome.lookups outcome.updates

-- ---- the program of a file over five tables

-- the note of its quote
abbrev pub IsQuoteOver : Database → (file text : List ℕ) → Type 0
IsQuoteOver database file text = HoldsOfFile file (λ program. IsQuote database program text)

-- the printed report of its run
abbrev pub IsFileReportOver : Database → (file report : List ℕ) → Type 0
IsFileReportOver database file report =
    HoldsOfFile file (λ program. IsRunReport database program report)

-- the text of its run
abbrev pub IsRunOver : (visits : ℕ) → Database → List ℕ → RunText → Type 0
IsRunOver visits database file run =
    HoldsOfFile file (λ program. IsProgramRun database visits program run)

-- it is refused
abbrev pub IsRefusalOver : (visits : ℕ) → Database → List ℕ → Refusal → Type 0
IsRefusalOver visits database file refusal =
    HoldsOfFile file (λ program. IsRefusal database visits program refusal)

-- why there is no such text: the file is read first, then checked
abbrev pub IsRunErrorOver : (visits : ℕ) → Database → List ℕ → EngineFault → Type 0
IsRunErrorOver visits database file (Refused refusal) = IsRefusalOver visits database file refusal
IsRunErrorOver visits database file fault = IsProgramError file fault

-- ---- over five texts

-- the note of its quote
abbrev pub IsQuoteOf : ℕ → TableTexts → (file text : List ℕ) → Type 0
IsQuoteOf most texts file text =
    HoldsOfRows most texts (λ database. IsQuoteOver database file text)

-- the printed report of its run
abbrev pub IsFileReport : (most : ℕ) → TableTexts → (file report : List ℕ) → Type 0
IsFileReport most texts file report =
    HoldsOfRows most texts (λ database. IsFileReportOver database file report)

-- the text of its run
abbrev pub IsRunOf : (most visits : ℕ) → TableTexts → List ℕ → RunText → Type 0
IsRunOf most visits texts file run =
    HoldsOfRows most texts (λ database. IsRunOver visits database file run)

-- why there is no such text: the file is read first, then the tables, then the program is checked
abbrev pub IsRunError : (most visits : ℕ) → TableTexts → List ℕ → EngineFault → Type 0
IsRunError most visits texts file (Refused refusal) =
    HoldsOfRows most texts (λ database. IsRefusalOver visits database file refusal)
IsRunError most visits texts file fault = IsProgramInputError most texts file fault
