-- The output of reports of many files, over tables that are loaded once.
use Rattle.std.specs.Prelude.{◌≡◌, ◌⊎◌, ◌++◌, ◌-◌, ◌&&◌, ℕ, List, [], ◌∷◌, Bool, true, false, Result, Ok, Err, codes, length, take}
use Rattle.star_engine.specs.{declared.fault.EngineFault.EngineFault, Answered.Change, Answered.HasGained, Answered.HasGainedPart, Answered.IsUntouched, Loads.Loaded, WithNotes.RunText, RunTexts.IsFileRunOver, RunTexts.IsForecastOver, RunTexts.IsForecastErrorOver}
use Rattle.star_service.specs.{Lines.fault_line, Names.printed_name, ReportSinks.{HasFailedAt, HasStored, HasStoredNone, SinkChange}, declared.reports.Halt.Halt, declared.reports.Halt.TheVariants.{OutOfMemory, Unstored, Unwritten}, declared.reports.ReportJob.ReportJob}

-- ---- lines

-- a text without its last byte, as a line without its end
abbrev pub without_end : List ℕ → List ℕ
without_end text = take (length text - 1) text

-- a line with a name before it
abbrev pub named_line : (name line : List ℕ) → List ℕ
named_line name line = printed_name name ++ (codes " " ++ line)

-- of a file that was answered: its two notes as one line
abbrev pub run_line : (name : List ℕ) → RunText → List ℕ
run_line name run =
    named_line name (without_end run.quoted ++ (codes " " ++ run.done))

-- of one that was refused
abbrev pub refused_line : (name : List ℕ) → EngineFault → List ℕ
refused_line name fault = named_line name (fault_line fault)

-- ---- one file

-- the line of a file that is refused
pub record IsRefusedLine (loaded : Loaded) (name file line : List ℕ) : Type 0 where
  pub fault : EngineFault
  pub due : IsForecastErrorOver loaded.visits loaded.database file fault
  pub printed : line ≡ refused_line name fault

-- a file is answered: its report is kept under its name
pub record IsReportStored {K : Type 0} (loaded : Loaded) (name file : List ℕ) (sink : SinkChange K)
    (line : List ℕ) : Type 0 where
  pub run : RunText
  pub printed : IsFileRunOver loaded.visits loaded.database file run
  pub stored : HasStored sink name run.report
  pub lined : line ≡ run_line name run

-- a file is answered, and its report is not kept: a write of it failed
pub record IsReportUnstored {K : Type 0} (loaded : Loaded) (file : List ℕ) (sink : SinkChange K)
    (sent : ℕ)
    : Type 0 where
  pub run : RunText
  pub printed : IsFileRunOver loaded.visits loaded.database file run
  pub failed : HasFailedAt sink run.report sent

-- a file is answered or refused, with the line that is due
abbrev pub IsDue : {K : Type 0} → Loaded → (name file : List ℕ) → SinkChange K → (answered : Bool)
    → (line : List ℕ) → Type 0
IsDue loaded name file sink true line = IsReportStored loaded name file sink line
IsDue loaded name file sink false line =
    IsRefusedLine loaded name file line × HasStoredNone sink

-- the result of a file: a line of it is printed, and its report is kept if it is answered. If a
-- report can't be kept nothing is printed; if the line can't be written, its first bytes are; and
-- memory may be refused before the line
abbrev pub IsJobRun : {K S : Type 0} → Loaded → (name file : List ℕ) → SinkChange K → Change S
    → Result Bool Halt → Type 0
IsJobRun loaded name file sink out (Ok answered) =
    (line : List ℕ) × IsDue loaded name file sink answered line × HasGained out line
IsJobRun loaded name file sink out (Err OutOfMemory) =
    IsUntouched out × (HasStoredNone sink
    ⊎ ((line : List ℕ) × IsReportStored loaded name file sink line))
IsJobRun loaded name file sink out (Err (Unstored named sent)) =
    IsUntouched out × IsReportUnstored loaded file sink sent × (named.now ≡ name)
IsJobRun loaded name file sink out (Err (Unwritten sent)) =
    (answered : Bool) × ((line : List ℕ)
    × (IsDue loaded name file sink answered line × HasGainedPart out line sent))

-- the line of a file that is checked and not run: its forecast, or its refusal
abbrev pub IsForecastLine : Loaded → (name file : List ℕ) → (accepted : Bool) → (line : List ℕ)
    → Type 0
IsForecastLine loaded name file true line = (forecast : List ℕ)
    × IsForecastOver loaded.visits loaded.database file forecast × (line ≡ named_line name forecast)
IsForecastLine loaded name file false line = IsRefusedLine loaded name file line

-- the result of such a file: the line is printed
abbrev pub IsJobForecast : {S : Type 0} → Loaded → (name file : List ℕ) → Change S
    → Result Bool Halt → Type 0
IsJobForecast loaded name file out (Ok accepted) =
    (line : List ℕ) × IsForecastLine loaded name file accepted line × HasGained out line
IsJobForecast loaded name file out (Err OutOfMemory) = IsUntouched out
IsJobForecast loaded name file out (Err (Unstored named sent)) = ⊥
IsJobForecast loaded name file out (Err (Unwritten sent)) =
    (accepted : Bool) × ((line : List ℕ)
    × (IsForecastLine loaded name file accepted line × HasGainedPart out line sent))

-- ---- many files

-- the results of the files, one after another: the first, and then the others; and whether all were
-- answered
abbrev pub AreJobsRun : {K S : Type 0} → Loaded → List ReportJob → SinkChange K → Change S
    → (all : Bool) → Type 0
AreJobsRun loaded [] sink out all =
    (sink.new ≡ sink.old) × IsUntouched out × (all ≡ true)
AreJobsRun {K} {S} loaded (job ∷ others) sink out all =
    (answered : Bool) × ((rest : Bool) × ((stored : K) × ((printed : S)
    × (IsJobRun loaded job.name.now job.file.now (record sink { new = stored })
    (record out { new = printed }) (Ok answered)
    × (AreJobsRun loaded others (record sink { old = stored }) (record out { old = printed }) rest
    × (all ≡ (answered && rest)))))))

-- all files are answered or refused; or some are, and after them one ends it
pub record IsHalted {K S : Type 0} (loaded : Loaded) (jobs : List ReportJob) (sink : SinkChange K)
    (out : Change S) (halt : Halt) : Type 0 where
  pub before : List ReportJob
  pub here : ReportJob
  pub behind : List ReportJob
  pub parts : jobs ≡ before ++ here ∷ behind
  pub all : Bool
  pub stored : K
  pub printed : S
  pub delivered : AreJobsRun loaded before (record sink { new = stored }) (record out
      { new = printed })
      all
  pub halted : IsJobRun loaded here.name.now here.file.now (record sink { old = stored })
      (record out { old = printed }) (Err halt)

abbrev pub AreAllJobsRun : {K S : Type 0} → Loaded → List ReportJob → SinkChange K → Change S
    → Result Bool Halt → Type 0
AreAllJobsRun loaded jobs sink out (Ok all) = AreJobsRun loaded jobs sink out all
AreAllJobsRun loaded jobs sink out (Err halt) = IsHalted loaded jobs sink out halt

-- the same of files that are checked and not run
abbrev pub AreJobsForecast : {S : Type 0} → Loaded → List ReportJob → Change S → (all : Bool)
    → Type 0
AreJobsForecast loaded [] out all = IsUntouched out × (all ≡ true)
AreJobsForecast {S} loaded (job ∷ others) out all =
    (accepted : Bool) × ((rest : Bool) × ((printed : S)
    × (IsJobForecast loaded job.name.now job.file.now (record out { new = printed }) (Ok accepted)
    × (AreJobsForecast loaded others (record out { old = printed }) rest
    × (all ≡ (accepted && rest))))))

pub record IsForecastHalted {S : Type 0} (loaded : Loaded) (jobs : List ReportJob) (out : Change S)
    (halt : Halt) : Type 0 where
  pub before : List ReportJob
  pub here : ReportJob
  pub behind : List ReportJob
  pub parts : jobs ≡ before ++ here ∷ behind
  pub all : Bool
  pub printed : S
  pub judged : AreJobsForecast loaded before (record out { new = printed }) all
  pub halted : IsJobForecast loaded here.name.now here.file.now (record out { old = printed })
      (Err halt)

abbrev pub AreAllJobsForecast : {S : Type 0} → Loaded → List ReportJob → Change S → Result Bool Halt
    → Type 0
AreAllJobsForecast loaded jobs out (Ok all) = AreJobsForecast loaded jobs out all
AreAllJobsForecast loaded jobs out (Err halt) = IsForecastHalted loaded jobs out halt
