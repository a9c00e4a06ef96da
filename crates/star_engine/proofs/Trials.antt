-- What a trial over loaded tables answers.
use Rattle.std.{proofs.Common.{◌<◌, ◌++◌, ℕ, List, arith, codes, length}, proofs.lemmas.List.length-append, specs.List.{flat_map, join_with_byte}}
use Rattle.star_schema.specs.{Loadable.IsLoadable, Loadable.database_of, Database.Database, Database.TableTexts}
use Rattle.star_program.specs.{declared.outcome.Cell.Cell, declared.program.Parts.Parts, Run.bounded_run_of}
use Rattle.star_report.specs.Report.{line_text, report_text, row_text}
use Rattle.star_trial.specs.{declared.fault.TrialFault.TrialFault, Trials.IsFaultOfEnd}
use Rattle.star_world.specs.WorldOf.{world_of}
use Rattle.star_engine.specs.{declared.fault.EngineFault.EngineFault, Answered.OrMemory, Faults.fault_of_trial, Loads.IsProgramError, Loads.IsProgramOf, Loads.IsLoadError, Trials.IsTrialError, Trials.IsTrialErrorOver}
use Rattle.star_trial.specs.declared.fault.TrialFault.TheVariants as trial
use Rattle.star_engine.specs.declared.fault.EngineFault.TheVariants as engine

-- over the texts that hold the rows
pub no_trial_over : (most : ℕ) (texts : TableTexts) (file : List ℕ) (visits : ℕ)
    (fault : EngineFault) → IsLoadable most texts
    → IsTrialErrorOver (database_of texts) file visits fault
    → IsTrialError most texts file visits fault
no_trial_over most texts file visits (engine.Trial fault) loadable is =
    record { loadable = loadable; holds = is }
no_trial_over most texts file visits (engine.Program fault) loadable is = is
no_trial_over most texts file visits _ loadable is = absurd is

pub no_trial_unloaded : (most : ℕ) (texts : TableTexts) (file : List ℕ) (visits : ℕ)
    (program : Parts) → IsProgramOf file program → (fault : EngineFault)
    → IsLoadError most texts fault → IsTrialError most texts file visits fault
no_trial_unloaded most texts file visits program of_file (engine.Load fault) is =
    ((program, of_file), is)
no_trial_unloaded most texts file visits program of_file _ is = absurd is

pub no_trial_none : (most : ℕ) (texts : TableTexts) (file : List ℕ) (visits : ℕ)
    (fault : EngineFault) → IsProgramError file fault → IsTrialError most texts file visits fault
no_trial_none most texts file visits (engine.Program fault) is = is
no_trial_none most texts file visits _ is = absurd is

-- a report has a byte
pub report_some : (names : List (List ℕ)) (rows : List (List Cell)) → 0
    < length (report_text names rows)
unfolding report_text line_text
report_some names rows =
    let fields = join_with_byte 124 names in
    omega (
      arith,
      length-append (fields ++ codes "\n") (flat_map row_text rows),
      length-append fields (codes "\n"),
    )
