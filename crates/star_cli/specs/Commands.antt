-- The program's handling of the arguments of its command line.
use Rattle.std.specs.{Prelude.{◌≡◌, ◌⊎◌, ℕ, Bool, true, false, List, [], Option, Some, None, Result, IfSome, codes, if◌then◌else◌}, Borrow.Bor, List.{AllZip, Contains}, Path.path_file_stem}
use Rattle.star_schema.specs.Database.{TableTexts}
use Rattle.star_engine.specs.{Answered.Change, Answered.OrMemory, Loads.Loaded, Questions.Asks, QuoteTexts.IsQuoteErrorOver, QuoteTexts.is_program_file, declared.question.Question.Question}
use Rattle.star_service.specs.{Lines.IsTextPrinted, ReportSinks.SinkChange, Reports.AreAllJobsForecast, Reports.AreAllJobsRun, Sessions.IsSession, declared.reports.Halt.Halt, declared.reports.ReportJob.ReportJob}
use Rattle.star_words.specs.{Requests.IsRequest, Requests.IsWordsFault, declared.fault.WordsFault.WordsFault, declared.request.Merge.Merge as MergeAsked, declared.request.Partials.Partials as PartialsAsked, declared.request.Reports.Reports as ReportsAsked, declared.request.Request.TheVariants.Answer, declared.request.Request.TheVariants.Merge, declared.request.Request.TheVariants.Partial, declared.request.Request.TheVariants.Reports, declared.request.Request.TheVariants.Session, declared.request.Task.Task, declared.request.Task.TheVariants.{Sample, Check, Bench, Query, Explain, Exec, Quote, Trial}}
use Rattle.star_cli.specs.{Failures.{AreReportsEnded, IsFailurePrinted, IsReadError}, Answers.IsExitOf, Stores.{AreTablesIn, IsGivenFile, Known}, FolderLoads.{AreTablesUnread, IsFolderRefused, IsLoadedFrom}, declared.failure.Failure.Failure, declared.failure.Failure.TheVariants.{NamedTwice, OfFile, OutOfMemory, Unnamed, Words}}

-- ---- a task

-- the folder of a task's tables
abbrev pub folder_of : Task → Option (List ℕ)
folder_of Sample = None
folder_of (Check folder) = Some folder.now
folder_of (Bench folder) = Some folder.now
folder_of (Query folder path) = Some folder.now
folder_of (Explain path) = None
folder_of (Exec folder path) = Some folder.now
folder_of (Quote folder path) = Some folder.now
folder_of (Trial folder path limits) = Some folder.now

-- the path of its query or program
abbrev pub path_of : Task → Option (List ℕ)
path_of (Query folder path) = Some path.now
path_of (Explain path) = Some path.now
path_of (Exec folder path) = Some path.now
path_of (Quote folder path) = Some path.now
path_of (Trial folder path limits) = Some path.now
path_of task = None

abbrev pub AreTablesOf : Known → Task → TableTexts → Type 0
AreTablesOf known task texts = IfSome (folder_of task) (λ folder. AreTablesIn known folder texts)

abbrev pub IsFileOf : Known → Task → List ℕ → Type 0
IsFileOf known task file = IfSome (path_of task) (λ path. IsGivenFile known path file)

-- its file can't be read; or else one of its tables
abbrev pub IsTaskUnread : Known → Task → Failure → Type 0
IsTaskUnread known task failure = (failure ≡ OutOfMemory)
    ⊎ (((path : List ℕ) × (path_of task ≡ Some path) × IsReadError path failure)
    ⊎ ((file : List ℕ) × IsFileOf known task file × (folder : List ℕ)
    × (folder_of task ≡ Some folder) × AreTablesUnread known folder failure))

-- a task is answered over its tables and its file; or the failure to read them is printed
pub data IsTaskDone {S E : Type 0} (known : Known) (task : Task) (out : Change S) (err : Change E)
    (status : ℕ) : Type 0 where
  task_answered : (texts : TableTexts) (file : List ℕ) → AreTablesOf known task texts
      → IsFileOf known task file → IsExitOf task texts file out err status
      → IsTaskDone known task out err status
  task_unread : (failure : Failure) → IsTaskUnread known task failure
      → IsFailurePrinted failure out err status → IsTaskDone known task out err status

-- ---- a session

-- standard input: its bytes, if they are known, and whether it is a terminal
pub record Input : Type 0 where
  pub bytes : Option (List ℕ)
  pub is_terminal : Bool

abbrev pub input_of : Option (List ℕ) → Bool → Input
input_of bytes is_terminal = record { bytes = bytes; is_terminal = is_terminal }

-- the first line of a session at a terminal, before the tables are loaded
abbrev pub greeting_of : Bool → List ℕ
greeting_of is_terminal = if is_terminal then codes "loading the tables\n" else []

-- the statements of standard input are answered over loaded tables; or memory runs out
abbrev pub IsHeld : {S E : Type 0} → Loaded → Input → Change S → Change E → ℕ → Type 0
IsHeld loaded input out err status = ((left : Option (List ℕ)) × ((failed : Bool)
    × IsSession loaded input.is_terminal input.bytes left failed out err status))
    ⊎ IsFailurePrinted OutOfMemory out err status

-- the tables of a folder are loaded, and a session is held over them
pub data IsSessionDone {S E : Type 0} (known : Known) (folder : List ℕ) (input : Input)
    (out : Change S) (err : Change E) (status : ℕ) : Type 0 where
  session_held : (greeted : E) (loaded : Loaded)
      → IsTextPrinted (record err { new = greeted }) (greeting_of input.is_terminal)
      → IsLoadedFrom known folder loaded
      → IsHeld loaded input out (record err { old = greeted }) status
      → IsSessionDone known folder input out err status
  session_refused : (greeted : E)
      → IsTextPrinted (record err { new = greeted }) (greeting_of input.is_terminal)
      → IsFolderRefused known folder out (record err { old = greeted }) status
      → IsSessionDone known folder input out err status

-- ---- reports

-- a file that is a query or a program; the name of its report is the last part of its path, without
-- its last ending
pub record IsErrandAt (known : Known) (path : Bor (List ℕ)) (job : ReportJob) : Type 0 where
  pub file : IsGivenFile known path.now job.file.now
  pub asks : (question : Question) × Asks (is_program_file job.file.now) job.file.now question
  pub name : path_file_stem path.now ≡ Some job.name.now

-- no report can be made of a file
abbrev pub IsPathRefused : Known → (path : Bor (List ℕ)) → Failure → Type 0
IsPathRefused known path (Unnamed it) = (it ≡ path) × (path_file_stem path.now ≡ None)
IsPathRefused known path (NamedTwice name) = path_file_stem path.now ≡ Some name.now
IsPathRefused known path (OfFile it fault) = (it ≡ path) × ((file : List ℕ)
    × IsGivenFile known path.now file × OrMemory (IsQuoteErrorOver file) fault)
IsPathRefused known path failure = IsReadError path.now failure

-- of one of some files
abbrev pub IsOneRefused : Known → (paths : List (Bor (List ℕ))) → Failure → Type 0
IsOneRefused known paths failure =
    (path : Bor (List ℕ)) × Contains paths path × IsPathRefused known path failure

-- the reports of some files over some tables are kept by a `K`; or, for `--quote`, the forecasts of
-- the files are printed
pub data AreReportsDone {S E : Type 0} (K : Type 0) (known : Known) (asked : ReportsAsked)
    (out : Change S) (err : Change E) (status : ℕ) : Type 0 where
  reports_made : (jobs : List ReportJob) (loaded : Loaded) (sink : SinkChange K)
      (result : Result Bool Halt) (printed : S) → asked.is_quote ≡ false
      → AllZip (IsErrandAt known) asked.files.items jobs
      → IsLoadedFrom known asked.folder.now loaded
      → AreAllJobsRun loaded jobs sink (record out { new = printed }) result
      → AreReportsEnded (record out { old = printed }) err result status
      → AreReportsDone K known asked out err status
  reports_quoted : (jobs : List ReportJob) (loaded : Loaded) (result : Result Bool Halt)
      (printed : S) → asked.is_quote ≡ true → AllZip (IsErrandAt known) asked.files.items jobs
      → IsLoadedFrom known asked.folder.now loaded
      → AreAllJobsForecast loaded jobs (record out { new = printed }) result
      → AreReportsEnded (record out { old = printed }) err result status
      → AreReportsDone K known asked out err status
  reports_unloaded : IsFolderRefused known asked.folder.now out err status
      → AreReportsDone K known asked out err status
  reports_unready : (failure : Failure)
      → IsOneRefused known asked.files.items failure ⊎ IsReadError asked.target.now failure
      → IsFailurePrinted failure out err status → AreReportsDone K known asked out err status

-- ---- the command

-- the request of the arguments is carried out; or their error is printed
pub data IsCommandDone {S E : Type 0} (K : Type 0) (known : Known) (words : List (List ℕ))
    (input : Input) (out : Change S) (err : Change E) (status : ℕ) : Type 0 where
  no_command : (fault : WordsFault) → IsWordsFault words fault
      → IsFailurePrinted (Words fault) out err status
      → IsCommandDone K known words input out err status
  an_answer : (task : Task) → IsRequest words (Answer task) → IsTaskDone known task out err status
      → IsCommandDone K known words input out err status
  a_session : (folder : Bor (List ℕ)) → IsRequest words (Session folder)
      → IsSessionDone known folder.now input out err status → IsCommandDone K known words input out err status
  some_reports : (asked : ReportsAsked) → IsRequest words (Reports asked)
      → AreReportsDone K known asked out err status
      → IsCommandDone K known words input out err status
  -- of the output of `partial` and `merge` nothing is promised
  some_partials : (asked : PartialsAsked) → IsRequest words (Partial asked)
      → IsCommandDone K known words input out err status
  a_merge : (asked : MergeAsked) → IsRequest words (Merge asked)
      → IsCommandDone K known words input out err status
