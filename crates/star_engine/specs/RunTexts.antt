-- The texts of a file, a program or a query, over the rows of five tables: its forecast, and its
-- report with its notes.
use Rattle.std.specs.Prelude.{◌≡◌, ℕ, Bool, true, false, List, string_bytes}
use Rattle.star_schema.specs.Database.{Database}
use Rattle.star_safety.specs.MostRows.{most_report_rows}
use Rattle.star_compile_laws.specs.Compiled.{compiled}
use Rattle.star_plan.specs.Meaning.{Plan}
use Rattle.star_program.specs.declared.program.Parts.{Parts}
use Rattle.star_engine.specs.{Queries.{FitsRows, IsPlanOf, IsQueryRunErrorOver, IsQueryRunOver, fact_rows}, declared.fault.EngineFault.EngineFault, declared.executions.RunOutput.RunOutput, Executions.{IsAcceptedWithin, IsRunOver, IsRunErrorOver, quote_over}, Loads.HoldsOfFile, WithNotes.RunText, Notes.forecast_line, QuoteTexts.is_program_file}
use Rattle.star_world.specs.WorldOf.{world_of}

-- the maximum number of rows of the report of a program over these tables
abbrev pub most_rows_over : Database → Parts → ℕ
most_rows_over database program = most_report_rows (world_of database) program

-- the forecast of an accepted program: its quote, and the maximum number of rows of its report
pub record IsProgramForecast (database : Database) (most : ℕ) (program : Parts) (text : List ℕ)
    : Type 0 where
  pub accepted : IsAcceptedWithin database most program
  pub printed : text ≡ forecast_line (quote_over database program) (most_rows_over database program)

-- the same for a query that fits: each row of lineorder is visited once, and the rows are those
-- that the report of its program can have
pub record IsQueryForecast (most : ℕ) (database : Database) (query text : List ℕ) : Type 0 where
  pub fitting : FitsRows most database query
  pub p : Plan
  pub meant : IsPlanOf query p
  pub printed : text ≡ forecast_line (fact_rows database) (most_rows_over database (compiled p))

abbrev pub IsForecastOfKind : (is_program : Bool) → (visits : ℕ) → Database → (file text : List ℕ)
    → Type 0
IsForecastOfKind true visits database file text =
    HoldsOfFile file (λ program. IsProgramForecast database visits program text)
IsForecastOfKind false visits database file text = IsQueryForecast visits database file text

abbrev pub IsForecastErrorOfKind : (is_program : Bool) → (visits : ℕ) → Database → (file : List ℕ)
    → EngineFault → Type 0
IsForecastErrorOfKind true visits database file fault = IsRunErrorOver visits database file fault
IsForecastErrorOfKind false visits database file fault = IsQueryRunErrorOver visits database file
    fault

abbrev pub IsRunOfKind : (is_program : Bool) → (visits : ℕ) → Database → (file : List ℕ)
    → RunText → Type 0
IsRunOfKind true visits database file run = IsRunOver visits database file run
IsRunOfKind false visits database file run = IsQueryRunOver visits database file run

-- the line of a file that is not refused and not run
abbrev pub IsForecastOver : (visits : ℕ) → Database → (file text : List ℕ) → Type 0
IsForecastOver visits database file text =
    IsForecastOfKind (is_program_file file) visits database file text

-- the text of its run
abbrev pub IsFileRunOver : (visits : ℕ) → Database → (file : List ℕ) → RunText → Type 0
IsFileRunOver visits database file run =
    IsRunOfKind (is_program_file file) visits database file run

-- the text whose three pieces a call returns
abbrev pub run_text_of : RunOutput → RunText
run_text_of output = record {
  quoted = string_bytes output.quoted;
  report = output.report.items;
  done = string_bytes output.done;
}

-- why a file has no such line: it is read first, then checked
abbrev pub IsForecastErrorOver : (visits : ℕ) → Database → (file : List ℕ) → EngineFault → Type 0
IsForecastErrorOver visits database file fault =
    IsForecastErrorOfKind (is_program_file file) visits database file fault
