-- The steps of a command.
use Rattle.std.{proofs.Common.{◌≡◌, subst, ℕ, List, [], Bool, true, false, Global, Some, None, inl, inr, refl}, specs.Prelude.{Result, Ok, Err, MatchResult, Option}, specs.Io.Buffered.{reader_buffer, reader_capacity, reader_inner, reader_remaining}, specs.Borrow.Bor, specs.List.AllZip, specs.Io.KnownBytes.prepend_known, specs.declared.io.BufReader.BufReader}
use Rattle.star_engine.specs.{Answered.Change, Answered.change, Loads.Loaded}
use Rattle.star_service.specs.{Reports.AreAllJobsForecast, Reports.AreAllJobsRun, Sessions.IsSession, declared.reports.Halt.Halt, declared.reports.ReportJob.ReportJob}
use Rattle.star_words.specs.{Requests.HasMostRows, declared.request.Reports.Reports, declared.request.Request.TheVariants.Answer, declared.request.Task.Task}
use Rattle.star_cli.{specs.Commands.{AreReportsDone, Input, IsErrandAt, IsFileOf, IsHeld, IsTaskUnread, folder_of, path_of, reports_made, reports_quoted}, specs.Answers.IsOfTables, specs.FolderLoads.{AreTablesUnread, IsLoadedFrom}, specs.Stores.Known, specs.Private.Errands.{IsErrandFor, IsReadFrom}, specs.declared.commands.Read.Read, specs.declared.jobs.ReadFile.ReadFile, specs.declared.failure.Failure.Failure, proofs.Zips.zip_on, specs.Private.Steps.{HasBoth, HasTables, IsKept, IsOneUnread, IsReadFor}, specs.Failures.AreReportsEnded}

-- ---- what is read for a task

module _ (known : Known) (task : Task) (folder : List ℕ) (is_folder : folder_of task ≡ Some folder)
    (tabled : HasMostRows (Answer task) → IsOfTables task) where
  tables_read : (read : Read) → HasTables known folder read → IsFileOf known task read.file.items
      → IsReadFor known task read
  tables_read read (tables, same, given) file =
      (given.0, rw is_folder given.1, file, rw same (given.2, tabled))

  pub folder_for : (result : Result Read Failure) → path_of task ≡ None
      → MatchResult result (HasTables known folder) (AreTablesUnread known folder)
      → MatchResult result (IsReadFor known task) (IsTaskUnread known task)
  folder_for (Ok read) no_path has = tables_read read has (rw no_path tt)
  folder_for (Err failure) no_path unread = inr (inr ([], rw no_path tt, folder, is_folder, unread))

  pub both_for : (path : List ℕ) (result : Result Read Failure) → path_of task ≡ Some path
      → MatchResult result (HasBoth known folder path) (IsOneUnread known folder path)
      → MatchResult result (IsReadFor known task) (IsTaskUnread known task)
  both_for path (Ok read) is_path (has, file) = tables_read read has (rw is_path file)
  both_for path (Err failure) is_path (inl unread) = inr (inl (path, is_path, unread))
  both_for path (Err failure) is_path (inr (file, given, unread)) =
      inr (inr (file, rw is_path given, folder, is_folder, unread))

-- ---- standard input

pub no_bytes_before : (known : Option (List ℕ)) → prepend_known [] known ≡ known
no_bytes_before None = refl
no_bytes_before (Some bytes) = refl

-- a reader that was not read yet
pub fresh : {T : Type 0} (remaining : T → Option (List ℕ)) (reader : BufReader T Global) (inner : T)
    → reader_inner reader ≡ inner → reader_buffer reader ≡ [] → reader_capacity reader ≡ 8192
    → reader_remaining remaining reader ≡ remaining inner
fresh remaining reader inner is empty room =
    rw (room, empty, ← is) (no_bytes_before (remaining (reader_inner reader)))

-- ---- sessions

module _ {S E : Type 0} (of_out : S → Option (List ℕ)) (out_failed : S → Bool)
    (of_err : E → Option (List ℕ)) (err_failed : E → Bool) (out0 out1 out2 : S) (err0 err1 err2 : E)
    (same : out1 ≡ out0) (still : err1 ≡ err0) (status : ℕ) where
  pub held_after : (loaded : Loaded) (input : Input)
      → IsHeld loaded input (change of_out out_failed out1 out2)
      (change of_err err_failed err1 err2) status
      → IsHeld loaded input (change of_out out_failed out0 out2)
      (change of_err err_failed err0 err2) status
  held_after loaded input is =
      subst (λ o. IsHeld loaded input (change of_out out_failed o out2)
      (change of_err err_failed err0 err2) status) same
      (subst (λ e. IsHeld loaded input (change of_out out_failed out1 out2)
      (change of_err err_failed e err2) status) still is)

  pub done_after : (K : Type 0) (known : Known) (asked : Reports)
      → AreReportsDone K known asked (change of_out out_failed out1 out2)
      (change of_err err_failed err1 err2) status
      → AreReportsDone K known asked (change of_out out_failed out0 out2)
      (change of_err err_failed err0 err2) status
  done_after K known asked is =
      subst (λ o. AreReportsDone K known asked (change of_out out_failed o out2)
      (change of_err err_failed err0 err2) status) same
      (subst (λ e. AreReportsDone K known asked (change of_out out_failed out1 out2)
      (change of_err err_failed e err2) status) still is)

pub held : {S E : Type 0} (out : Change S) (err : Change E) (status : ℕ) (loaded : Loaded)
    (input : Input) (old left : Option (List ℕ)) (failed : Bool) → old ≡ input.bytes
    → IsSession loaded input.is_terminal old left failed out err status
    → IsHeld loaded input out err status
held out err status loaded input old left failed same is =
    let P : Option (List ℕ) → Type 0 =
    λ bytes. IsSession loaded input.is_terminal bytes left failed out err status in
    inl (left, (failed, subst P same is))

-- ---- reports

errand_at : (known : Known) (path : Bor (List ℕ)) (file : ReadFile) (job : ReportJob)
    → IsReadFrom known path file → IsErrandFor file job → IsErrandAt known path job
errand_at known path file job read is = record {
  file = rw is.bytes read.bytes;
  asks = rw is.bytes read.asks;
  name = rw is.name read.name;
}

pub reports_by : {S E : Type 0} (K : Type 0) (out : Change S) (err : Change E) (status : ℕ)
    (known : Known) (asked : Reports) (files : List ReadFile) (jobs : List ReportJob)
    (loaded : Loaded)
    (result : Result Bool Halt) (printed : S) (is_quote : Bool) → asked.is_quote ≡ is_quote
    → AllZip (IsReadFrom known) asked.files.items files → AllZip IsErrandFor files jobs
    → IsLoadedFrom known asked.folder.now loaded
    → (is_quote ≡ true → AreAllJobsForecast loaded jobs (record out { new = printed }) result)
    → (is_quote ≡ false → IsKept {K = K} (λ sink. AreAllJobsRun loaded jobs sink
    (record out { new = printed }) result))
    → AreReportsEnded (record out { old = printed }) err result status
    → AreReportsDone K known asked out err status
reports_by K out err status known asked files jobs loaded result printed true same read are from
    judged stored ended =
    reports_quoted jobs loaded result printed same
    (zip_on (IsReadFrom known) IsErrandFor (IsErrandAt known)
    (errand_at known) asked.files.items files
    jobs read are) from (judged refl) ended
reports_by K out err status known asked files jobs loaded result printed false same read are from
    judged stored ended =
    let (sink, delivered) = stored refl in
    reports_made jobs loaded sink result printed same
    (zip_on (IsReadFrom known) IsErrandFor (IsErrandAt known)
    (errand_at known) asked.files.items files
    jobs read are) from delivered ended
