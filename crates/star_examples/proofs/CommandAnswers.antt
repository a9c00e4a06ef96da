-- What each command asks of the engine, what is printed of a fault or a failure and with which
-- status, and what sessions and reports of files print: each type is the one on the right.
use Rattle.std.{proofs.Common.{◌≡◌, ◌⊎◌, ◌≤◌, ◌&&◌, ◌↔◌, ◌++◌, ℕ, Bool, true, false, List, [], ◌∷◌, Option, Some, None, Result, Ok, Err, arith, inl, inr, refl}, specs.Prelude.{decimal, ⊤, IfOk, IsTrue, codes}, specs.Borrow.Bor}
use Rattle.star_common.proofs.Tables.{Gives}
use Rattle.star_schema.specs.{declared.limits.Limits.Limits, declared.table.TableId.TheVariants.Customer, declared.table.TableId.TheVariants.Lineorder, Database.TableTexts, Loadable.IsLoadable, Loadable.database_of, Most.most_rows, Most.most_visits}
use Rattle.star_plan.specs.declared.fault.PlanFault.TheVariants.{JoinMissing}
use Rattle.star_program.specs.declared.spelling.fault.TextFault.TheVariants.{BadLine}
use Rattle.star_catalogue.specs.declared.fault.LoadFault.TheVariants.{DuplicateKey}
use Rattle.star_verify.specs.declared.refusal.Refusal.TheVariants.{TooCostly}
use Rattle.star_trial.specs.declared.fault.TrialFault.TheVariants.{Limit}
use Rattle.star_statements.specs.{declared.questions.Question.TheVariants.{Explain as Explained, Nothing, Query as Asked, Quote as Quoted, TooLong}, Blanks.without_blanks, Questions.asked_by_text, Sources.IsPastCounting, Statements.ends_statement, Statements.joined_to_first, Statements.statement_lines, Statements.statements_in, declared.sources.ReadFault.TheVariants.Failed, declared.sources.ReadFault.TheVariants.OutOfMemory as NoMemory}
use Rattle.star_engine.specs.{declared.fault.EngineFault.TheVariants.{Load, OutOfMemory, Plan, Program, Query, Refused, Trial, Write}, Queries.{IsExplained, IsQueryError, IsQueryQuote, IsQueryQuoteOver, IsQueryRun, IsQueryRunError, IsQueryRunErrorOver, IsQueryRunOver}, declared.fault.EngineFault.EngineFault, Answered.{Change, HasGained, HasGainedPart, IsAnswered, OrMemory}, Bench.{AllFit, IsBench}, Executions.{IsQuoteOf, IsRunOf, IsRunError}, Loads.{IsLoadError, Loaded, loaded_of}, QuoteTexts.{IsQuoteErrorOver, IsQuoteTextOver}, RunTexts.IsForecastOver, WithNotes.IsAnsweredWithNotes}
use Rattle.star_service.specs.{Reports.{AreAllJobsForecast, AreAllJobsRun, AreJobsForecast, AreJobsRun, IsForecastLine, IsJobForecast, IsJobRun, IsRefusedLine, IsReportStored, IsReportUnstored, named_line}, Sessions.{AreAllAnswered, AreRounds, AreStatementsRun, IsAnswerTo, IsLineEnded, IsReportEnded, IsReported, IsRound, IsSession, IsSessionEnded, IsStatementUnread, IsStepEnded, IsUnwritten, may_go_on, parting_of}, ReportSinks.{Adds, HasFailedAt, HasStoredNone, IsStoreError, StoredReport, HaveSameReports, SinkChange, sink_change}, Lines.{IsFaultPrinted, IsTextPrinted, fault_line, fault_status}, declared.reports.Halt.Halt, declared.reports.ReportJob.ReportJob, declared.sessions.Stop.TheVariants.{Unread, Unwritten}}
use Rattle.star_cli.specs.{Answers.{IsBenched, IsEnded, IsExecuted, IsExplanation, IsGivenOf, IsListed, IsListedAndBenched, IsNoneRefused, IsOfTables, IsQueried, IsQuoted, IsTried, none_refused}, Failures.{AreReportsEnded, IsFailurePrinted, IsPrintedOn, IsTextOf, failure_of_halt, status_of}, FolderLoads.{AreTablesUnread, IsFolderRefused, IsFolderUnread, IsLoadedFrom}, Stores.{AreTablesIn, ArePartsFrom, IsAt, IsFile, IsGivenFile, IsTableFile, IsTextIn, IsWhole, AreParts, Known, part_name, path_in, table_name}}
use Rattle.star_examples.proofs.EngineAnswers.{Answer, Sink, grown, of_load, report, untouched, well}
use Rattle.star_query.specs.declared.fault.QueryFault.TheVariants as parsing
use Rattle.star_words.specs.declared.request.Task.TheVariants as task
use Rattle.star_service.specs.declared.reports.Halt.TheVariants as halts
use Rattle.star_service.specs.declared.report_sink.ReportSinkFault.TheVariants as sink_fault

-- ---- statuses of faults

statuses : Gives fault_status ((Refused (TooCostly 10), 1) ∷ (Trial Limit, 1)
    ∷ (Load (DuplicateKey Lineorder 5), 3) ∷ (Query (parsing.Unexpected 20), 4)
    ∷ (Plan (JoinMissing 32), 4) ∷ (Program (BadLine 4), 5) ∷ (Write 10, 6) ∷ (OutOfMemory, 7) ∷ [])
    × Gives may_go_on ((Write 3, false) ∷ (OutOfMemory, true) ∷ (of_load, true) ∷ [])
    × Gives none_refused ((Ok tt, Ok true) ∷ (Err OutOfMemory, Err OutOfMemory)
    ∷ (Err (Write 3), Err (Write 3)) ∷ [])
statuses = (refl, refl, refl)

-- ---- what is printed: a text, a fault with its own status or out of memory, and a failure

module _ {S E : Type 0} (out : Change S) (err : Change E) (text : List ℕ) (status : ℕ)
    (fault : EngineFault) (halt : Halt) where
  printed : (failure : _) → (IsTextPrinted out text ≡ (((text ≡ []) × (out.new ≡ out.old))
      ⊎ (HasGained out text ⊎ ((sent : ℕ) × HasGainedPart out text sent))))
      × (IsFaultPrinted err fault status ≡ ((f : EngineFault) × ((f ≡ fault) ⊎ (f ≡ OutOfMemory))
      × IsTextPrinted err (fault_line f) × (status ≡ fault_status f)))
      × (IsPrintedOn true out err text ≡ (IsTextPrinted out text × (err.new ≡ err.old)))
      × (IsPrintedOn false out err text ≡ ((out.new ≡ out.old) × IsTextPrinted err text))
      × (IsFailurePrinted failure out err 0 ≡ ((f : _)
      × ((f ≡ failure) ⊎ (f ≡ failure_of_halt halts.OutOfMemory))
      × ((t : List ℕ) × IsTextOf f t × IsPrintedOn true out err t) × (0 ≡ status_of f)))
      × (IsFailurePrinted failure out err 2 ≡ ((f : _)
      × ((f ≡ failure) ⊎ (f ≡ failure_of_halt halts.OutOfMemory))
      × ((t : List ℕ) × IsTextOf f t × IsPrintedOn false out err t) × (2 ≡ status_of f)))
  printed failure = (refl, refl, refl, refl, refl, refl)

  ended : (IsEnded err (Ok true) status ≡ ((err.new ≡ err.old) × (status ≡ 0)))
      × (IsEnded err (Ok false) status ≡ ((err.new ≡ err.old) × (status ≡ 1)))
      × (IsEnded err (Err fault) status ≡ IsFaultPrinted err fault status)
      × (AreReportsEnded out err (Ok true) status
      ≡ ((out.new ≡ out.old) × (err.new ≡ err.old) × (status ≡ 0)))
      × (AreReportsEnded out err (Ok false) status
      ≡ ((out.new ≡ out.old) × (err.new ≡ err.old) × (status ≡ 1)))
      × (AreReportsEnded out err (Err halt) status
      ≡ IsFailurePrinted (failure_of_halt halt) out err status)
  ended = (refl, refl, refl, refl, refl, refl)

  refused : (known : Known) (folder : List ℕ) → IsFolderRefused known folder out err status
      ≡ (((f : _) × IsFolderUnread known folder f × IsFailurePrinted f out err status)
      ⊎ ((out.new ≡ out.old) × (texts : TableTexts) × AreTablesIn known folder texts
      × (f : EngineFault) × OrMemory (IsLoadError most_rows texts) f × IsFaultPrinted err f status))
  refused known folder = refl

-- ---- what the engine is asked for, under the widest limits: `query` and `exec` alone write notes

module _ {S N : Type 0} (out : Change S) (notes : Change N) (texts : TableTexts) (file : List ℕ)
    (result : Result Bool EngineFault) (answer : Answer)
    (Is : Answer → Type 0) where
  calls : (IsNoneRefused Is result ≡ ((a : Answer) × Is a × (result ≡ none_refused a)))
      × (IsQueried out notes texts file answer
      ≡ IsAnsweredWithNotes out notes (IsQueryQuote most_rows texts file)
      (IsQueryRun most_rows most_visits texts file)
      (IsQueryRunError most_rows most_visits texts file) answer)
      × (IsExecuted out notes texts file answer
      ≡ IsAnsweredWithNotes out notes (IsQuoteOf most_rows texts file)
      (IsRunOf most_rows most_visits texts file) (IsRunError most_rows most_visits texts file)
      answer)
      × (IsListedAndBenched out texts result
      ≡ (((f : EngineFault) × IsListed out texts (Err f) × (result ≡ Err f))
      ⊎ ((listed : S) × IsListed (record out { new = listed }) texts (Ok tt)
      × IsBenched (record out { old = listed }) texts result)))
  calls = (refl, refl, refl, refl)

  given : (folder path : _) (limits : Limits) →
      (IsGivenOf task.Sample texts file out notes result
      ≡ (IsListedAndBenched out texts result × (notes.new ≡ notes.old)))
      × (IsGivenOf (task.Check folder) texts file out notes result
      ≡ (IsNoneRefused (IsListed out texts) result × (notes.new ≡ notes.old)))
      × (IsGivenOf (task.Bench folder) texts file out notes result
      ≡ (IsBenched out texts result × (notes.new ≡ notes.old)))
      × (IsGivenOf (task.Explain path) texts file out notes result
      ≡ (IsNoneRefused (IsExplanation out file) result × (notes.new ≡ notes.old)))
      × (IsGivenOf (task.Quote folder path) texts file out notes result
      ≡ (IsNoneRefused (IsQuoted out texts file) result × (notes.new ≡ notes.old)))
      × (IsGivenOf (task.Trial folder path limits) texts file out notes result
      ≡ (IsNoneRefused (IsTried limits out texts file) result × (notes.new ≡ notes.old)))
      × (IsGivenOf (task.Query folder path) texts file out notes result
      ≡ IsNoneRefused (IsQueried out notes texts file) result)
      × (IsGivenOf (task.Exec folder path) texts file out notes result
      ≡ IsNoneRefused (IsExecuted out notes texts file) result)
  given folder path limits = (refl, refl, refl, refl, refl, refl, refl, refl)

module _ {S : Type 0} (out : Change S) (texts : TableTexts) (result : Result Bool EngineFault)
    (benched : IsBenched out texts result) where
  each_query_answered : IsAnswered out (IsBench most_rows most_visits texts)
      (IsLoadError most_rows texts) result
      × IfOk result (λ fits. IsTrue fits ↔ AllFit most_visits (database_of texts))
  each_query_answered = (benched.answered, benched.fits)

-- ---- tables: which tasks load some; what a load gives

module _ (folder path : Bor (List ℕ)) (limits : Limits) (loaded : Loaded) where
  folders : (IsOfTables task.Sample ≡ Unit {0}) × (IsOfTables (task.Explain path) ≡ ⊥)
      × (IsOfTables (task.Bench folder) ≡ Unit {0})
      × (IsOfTables (task.Trial folder path limits) ≡ (limits.rows ≡ most_rows))
      × ((known : Known) (name : List ℕ) → IsLoadedFrom known name loaded
      ≡ ((texts : TableTexts) × AreTablesIn known name texts × IsLoadable most_rows texts
      × (loaded ≡ loaded_of most_rows most_visits texts)))
  folders = (refl, refl, refl, refl, λ known name. refl)

-- ---- the files of a folder, by name: a table, lineorder's parts in order, the first unread

files : Gives (path_in (codes "d")) ((table_name Customer, codes "d/customer.tbl")
    ∷ (table_name Lineorder, codes "d/lineorder.tbl") ∷ (part_name 12, codes "d/lineorder.tbl." ++ decimal 12) ∷ [])
files = refl

module _ (known : Known) (text : List (List ℕ)) (first second bytes : List ℕ) where
  texts_in : (IsTextIn known (codes "d") Customer text ≡ IsWhole known (codes "d") Customer text)
      × (IsTextIn known (codes "d") Lineorder text ≡ (IsWhole known (codes "d") Lineorder text
      ⊎ (IsAt known (codes "d/lineorder.tbl") None × AreParts known (codes "d") text)))
      × (ArePartsFrom known (codes "d") 1 (first ∷ second ∷ [])
      ≡ (IsTableFile known (codes "d") (part_name 1) first
      × (IsTableFile known (codes "d") (part_name 2) second × ⊤)))
      × (IsGivenFile known (codes "q.sql") bytes ≡ IsFile known 16777216 (codes "q.sql") bytes)
      × (AreTablesUnread known (codes "d") (failure_of_halt halts.OutOfMemory) ≡ ⊤)
  texts_in = (refl, refl, refl, refl, refl)

-- a second part is not read as the first
parts_in_order : ArePartsFrom (λ path. Some None) (codes "d") 1 (codes "7" ∷ []) → ⊥
parts_in_order ((at, few), more) = cc

-- ---- report sinks

-- the reports that a report sink has, and how far the last one came, where a write of it failed
abbrev KnownSink : Type 0
KnownSink = List StoredReport × Option ℕ

abbrev put : KnownSink → KnownSink → SinkChange KnownSink
put old new = sink_change (λ sink. Some sink.0) (λ sink. sink.1) old new

abbrev before : List StoredReport
before = record { name = codes "revenue"; report = codes "revenue\n7045\n" } ∷ []

no_failure_after_the_end : HasFailedAt (put (before, None) (before, Some 5)) report 5 → ⊥
no_failure_after_the_end past = let more : 5 ≤ 4 = past.part in omega arith

-- ---- reports of files

module _ {K S : Type 0} (loaded : Loaded) (name file line : List ℕ) (sink : SinkChange K)
    (out : Change S) (named : Bor (List ℕ)) (sent : ℕ) (job : ReportJob) (jobs : List ReportJob)
    (all : Bool) (one : StoredReport) where
  stored_in_sinks : (IsStoreError sink report sink_fault.OutOfMemory ≡ HasStoredNone sink)
      × (IsStoreError sink report (sink_fault.Write sent) ≡ HasFailedAt sink report sent)
      × (Adds None None one ≡ Unit {0}) × (Adds (Some before) None one ≡ ⊥)
      × (HaveSameReports None None ≡ Unit {0}) × (HaveSameReports (Some before) None ≡ ⊥)
  stored_in_sinks = (refl, refl, refl, refl, refl, refl)

  delivered : (IsJobRun loaded name file sink out (Ok true)
      ≡ ((l : List ℕ) × IsReportStored loaded name file sink l × HasGained out l))
      × (IsJobRun loaded name file sink out (Ok false) ≡ ((l : List ℕ)
      × (IsRefusedLine loaded name file l × HasStoredNone sink) × HasGained out l))
      × (IsJobRun loaded name file sink out (Err halts.OutOfMemory) ≡ ((out.new ≡ out.old)
      × (HasStoredNone sink ⊎ ((l : List ℕ) × IsReportStored loaded name file sink l))))
      × (IsJobRun loaded name file sink out (Err (halts.Unstored named sent))
      ≡ ((out.new ≡ out.old) × IsReportUnstored loaded file sink sent × (named.now ≡ name)))
  delivered = (refl, refl, refl, refl)

  judged : (IsForecastLine loaded name file true line ≡ ((forecast : List ℕ)
      × IsForecastOver loaded.visits loaded.database file forecast
      × (line ≡ named_line name forecast)))
      × (IsForecastLine loaded name file false line ≡ IsRefusedLine loaded name file line)
      × (IsJobForecast loaded name file out (Ok all)
      ≡ ((l : List ℕ) × IsForecastLine loaded name file all l × HasGained out l))
      × (IsJobForecast loaded name file out (Err halts.OutOfMemory) ≡ (out.new ≡ out.old))
      × (IsJobForecast loaded name file out (Err (halts.Unstored named sent)) ≡ ⊥)
  judged = (refl, refl, refl, refl, refl)

  -- one after another, and whether all were answered
  of_many : (AreJobsRun loaded [] sink out all
      ≡ ((sink.new ≡ sink.old) × (out.new ≡ out.old) × (all ≡ true)))
      × (AreJobsRun loaded (job ∷ jobs) sink out all
      ≡ ((answered : Bool) × ((rest : Bool) × ((stored : K) × ((printed : S)
      × (IsJobRun loaded job.name.now job.file.now (record sink { new = stored })
      (record out { new = printed }) (Ok answered)
      × (AreJobsRun loaded jobs (record sink { old = stored }) (record out { old = printed }) rest
      × (all ≡ (answered && rest)))))))))
      × (AreAllJobsRun loaded jobs sink out (Ok all)
      ≡ AreJobsRun loaded jobs sink out all)
      × (AreJobsForecast loaded [] out all ≡ ((out.new ≡ out.old) × (all ≡ true)))
      × (AreJobsForecast loaded (job ∷ jobs) out all
      ≡ ((accepted : Bool) × ((rest : Bool) × ((printed : S)
      × (IsJobForecast loaded job.name.now job.file.now (record out { new = printed }) (Ok accepted)
      × (AreJobsForecast loaded jobs (record out { old = printed }) rest
      × (all ≡ (accepted && rest))))))))
      × (AreAllJobsForecast loaded jobs out (Ok all) ≡ AreJobsForecast loaded jobs out all)
  of_many = (refl, refl, refl, refl, refl, refl)

-- ---- sessions: one statement, and how it ends

module _ {S E : Type 0} (loaded : Loaded) (query : List ℕ) (out : Change S) (err : Change E)
    (answer : Answer) (fault : EngineFault) (goes_on is_terminal failed : Bool)
    (old new : Option (List ℕ)) (status : ℕ) (statement : List ℕ) (others : List (List ℕ)) where
  statements : (IsReported loaded query out err answer
      ≡ IsAnsweredWithNotes out err (IsQueryQuoteOver loaded.database query)
      (IsQueryRunOver loaded.visits loaded.database query)
      (IsQueryRunErrorOver loaded.visits loaded.database query) answer)
      × (IsReportEnded loaded query out err answer
      ≡ (((f : EngineFault) × IsReported loaded query out err (Err f) × (answer ≡ Err f))
      ⊎ ((reported : S) × IsReported loaded query (record out { new = reported }) err (Ok tt)
      × IsLineEnded (record out { old = reported }) answer)))
      × (IsAnswerTo loaded Nothing out err answer
      ≡ ((out.new ≡ out.old) × (err.new ≡ err.old) × (answer ≡ Ok tt)))
      × (IsAnswerTo loaded TooLong out err answer
      ≡ ((out.new ≡ out.old) × (err.new ≡ err.old) × (answer ≡ Err (Query parsing.TooLong))))
      × (IsAnswerTo loaded (Asked query) out err answer
      ≡ IsReportEnded loaded query out err answer)
      × (IsAnswerTo loaded (Explained query) out err answer
      ≡ (IsAnswered out (IsExplained query) (IsQueryError query) answer × (err.new ≡ err.old)))
      × (IsAnswerTo loaded (Quoted query) out err answer
      ≡ (IsAnswered out (IsQuoteTextOver loaded.database query) (IsQuoteErrorOver query) answer
      × (err.new ≡ err.old)))
      × (IsStepEnded err (Ok tt) goes_on ≡ ((err.new ≡ err.old) × (goes_on ≡ true)))
      × (IsStepEnded err (Err fault) goes_on
      ≡ (((s : ℕ) × IsFaultPrinted err fault s) × (goes_on ≡ may_go_on fault)))
  statements = (refl, refl, refl, refl, refl, refl, refl, refl, refl)

  -- statements one after another, what ends them before the last, and the exit status
  conversations : (AreRounds loaded is_terminal [] out err
      ≡ ((out.new ≡ out.old) × (err.new ≡ err.old)))
      × (AreRounds loaded is_terminal (statement ∷ others) out err
      ≡ ((printed : S) × ((noted : E) × (IsRound loaded is_terminal statement
      (record out { new = printed }) (record err { new = noted }) true
      × AreRounds loaded is_terminal others (record out { old = printed })
      (record err { old = noted })))))
      × (AreStatementsRun loaded is_terminal old new failed out err (Ok tt)
      ≡ AreAllAnswered loaded is_terminal old new out err)
      × (AreStatementsRun loaded is_terminal old new failed out err (Err Unwritten)
      ≡ IsUnwritten loaded is_terminal old new out err)
      × (AreStatementsRun loaded is_terminal old new failed out err (Err (Unread Failed))
      ≡ (IsStatementUnread loaded is_terminal old out err
      × ((failed ≡ true) ⊎ ((read : List ℕ) × IsPastCounting old new read))))
      × (AreStatementsRun loaded is_terminal old new failed out err (Err (Unread NoMemory))
      ≡ IsStatementUnread loaded is_terminal old out err)
      × (IsSessionEnded is_terminal err (Ok tt) status
      ≡ (IsTextPrinted err (parting_of is_terminal) × (status ≡ 0)))
      × (IsSessionEnded is_terminal err (Err Unwritten) status
      ≡ ((err.new ≡ err.old) × (status ≡ 6)))
      × (IsSessionEnded is_terminal err (Err (Unread Failed)) status
      ≡ (IsTextPrinted err (codes "file standard input\n") × (status ≡ 6)))
      × (IsSessionEnded is_terminal err (Err (Unread NoMemory)) status
      ≡ (IsTextPrinted err (codes "memory\n") × (status ≡ 7)))
  conversations = (refl, refl, refl, refl, refl, refl, refl, refl, refl, refl)

-- ---- a source of one empty line, which a person types; after the last statement a line ends

abbrev told_of : List ℕ → Change Sink
told_of text = grown ([], false) (text, false)

module _ (loaded : Loaded) where
  prompted : IsRound loaded true (codes "\n") untouched (told_of (codes "star> ")) true
  unfolding asked_by_text without_blanks
  prompted = record {
    prompted = (codes "star> ", false);
    prompt = inr (inl (record { gained = refl; not_failed = refl }));
    step = record {
      answer = well;
      noted = (codes "star> ", false);
      answered = (refl, refl, refl);
      ended = (refl, refl);
    };
  }

  all_answered : AreAllAnswered loaded true (Some (codes "\n")) (Some []) untouched
      (told_of (codes "star> "))
  unfolding ends_statement joined_to_first statement_lines statements_in
  all_answered = record {
    text = codes "\n";
    read = refl;
    at_end = refl;
    rounds = (untouched.new, ((codes "star> ", false), (prompted, (refl, refl))));
  }

  session : IsSession loaded true (Some (codes "\n")) (Some []) false untouched
      (told_of (codes "star> \n")) 0
  session = record {
    result = Ok tt;
    noted = (codes "star> ", false);
    statements_run = all_answered;
    ended = (inr (inl (record { gained = refl; not_failed = refl })), refl);
  }
