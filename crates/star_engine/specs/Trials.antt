-- The text of `trial` for a program over five tables.
use Rattle.std.specs.Prelude.{◌≡◌, ℕ, List}
use Rattle.star_schema.specs.Database.{Database, TableTexts}
use Rattle.star_program.specs.{declared.outcome.Outcome.Outcome, declared.program.Parts.Parts, Run.End, Run.bounded_run_of}
use Rattle.star_report.specs.Report.{report_text}
use Rattle.star_trial.specs.{declared.fault.TrialFault.TrialFault, Trials.IsFaultOfEnd}
use Rattle.star_outcome.specs.Yields.{Yields}
use Rattle.star_world.specs.WorldOf.{world_of}
use Rattle.star_engine.specs.{Loads.{HoldsOfFile, HoldsOfRows, IsProgramError, IsProgramInputError, IsProgramOf}, declared.fault.EngineFault.EngineFault, declared.fault.EngineFault.TheVariants.Trial}
use Rattle.star_trial.specs.declared.fault.TrialFault.TheVariants as trial

-- the printed report of the program that a file spells, run over these tables for at most `visits`
-- visits
pub record IsBoundedReport (database : Database) (file : List ℕ) (visits : ℕ)
    (report : List ℕ) : Type 0 where
  pub program : Parts
  pub of_file : IsProgramOf file program
  pub outcome : Outcome
  pub yields : Yields (world_of database) program
      (bounded_run_of (world_of database) visits program) outcome
  pub printed : report ≡ report_text outcome.names outcome.rows

-- how a run ends that does not run to its end: trapped, or at the limit on visits
abbrev pub IsStop : End → TrialFault → Type 0
IsStop end trial.OutOfMemory = ⊥
IsStop end fault = IsFaultOfEnd end fault

-- why there is no report: the file is read first
abbrev pub IsTrialErrorOver : Database → (file : List ℕ) → (visits : ℕ) → EngineFault → Type 0
IsTrialErrorOver database file visits (Trial fault) =
    HoldsOfFile file (λ program. IsStop (bounded_run_of (world_of database) visits program) fault)
IsTrialErrorOver database file visits fault = IsProgramError file fault

-- ---- over five texts

-- the report of a trial over the rows of five texts
abbrev pub IsTrialReport : ℕ → TableTexts → (file : List ℕ) → (visits : ℕ) → (report : List ℕ)
    → Type 0
IsTrialReport most texts file visits report =
    HoldsOfRows most texts (λ database. IsBoundedReport database file visits report)

-- why there is none: the file is read first, then the tables
abbrev pub IsTrialError : ℕ → TableTexts → (file : List ℕ) → (visits : ℕ) → EngineFault → Type 0
IsTrialError most texts file visits (Trial fault) =
    HoldsOfRows most texts (λ database. IsTrialErrorOver database file visits (Trial fault))
IsTrialError most texts file visits fault = IsProgramInputError most texts file fault
