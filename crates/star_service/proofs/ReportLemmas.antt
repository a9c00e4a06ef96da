-- Reports of files, one after another.
use Rattle.std.{proofs.Common.{◌≡◌, ◌∙◌, ◌++◌, ◌+◌, ◌<◌, ◌&&◌, ℕ, suc, List, [], ◌∷◌, Bool, true, false, Option, Some, None, ap, drop, get_or, inl, inr, length, refl, subst, sym, take}, proofs.Math.Bool.{and-true, and_assoc}, proofs.Math.Seq.drop-cons, proofs.lemmas.List.{take-append-drop, take_more}, specs.Prelude.{Result, Ok, Err}}
use Rattle.star_engine.specs.{declared.fault.EngineFault.EngineFault, Answered.Change, Answered.HasGained, Answered.OrMemory, Loads.Loaded, WithNotes.RunText, RunTexts.IsFileRunOver, RunTexts.IsForecastOver, RunTexts.IsForecastErrorOver}
use Rattle.star_service.specs.{Reports.{AreJobsForecast, AreJobsRun, IsDue, IsForecastHalted, IsHalted, IsJobForecast, IsJobRun, named_line, refused_line, run_line}, ReportSinks.{HasStored, HasStoredNone, HaveSameReports, SinkChange, StoredReport, sink_change}, Private.ReportSteps.{IsLineWritten, IsRefusalPrinted, IsStoredAndPrinted}, declared.reports.Halt.Halt, declared.reports.Halt.TheVariants.{OutOfMemory, Unstored, Unwritten}, declared.reports.ReportJob.ReportJob}
use Rattle.star_engine.specs.declared.fault.EngineFault.TheVariants as engine

same_self : (known : Option (List StoredReport)) → HaveSameReports known known
same_self None = tt
same_self (Some reports) = refl

-- a report sink that no report is put on keeps those that it has
pub stored_none : {K : Type 0} (reports : K → Option (List StoredReport)) (failed_at : K → Option ℕ)
    (sink : K) → HasStoredNone (sink_change reports failed_at sink sink)
stored_none reports failed_at sink = record { same = same_self (reports sink); untried = refl }

module _ {K S : Type 0} (loaded : Loaded) where
  pub delivered_more : (jobs : List ReportJob) (job : ReportJob) (sink : SinkChange K)
      (out : Change S)
      (stored : K) (printed : S) (all answered : Bool)
      → AreJobsRun loaded jobs (record sink { new = stored }) (record out { new = printed }) all
      → IsJobRun loaded job.name.now job.file.now (record sink { old = stored })
      (record out { old = printed }) (Ok answered)
      → AreJobsRun loaded (jobs ++ job ∷ []) sink out (all && answered)
  delivered_more [] job sink out stored printed all answered before here =
      let P : K → S → Type 0 = λ k s. IsJobRun loaded job.name.now job.file.now
      (record sink { old = k }) (record out { old = s }) (Ok answered) in (
        answered,
        (
          true,
          (
            sink.new,
            (
              out.new,
              (
                subst (λ s. P sink.old s) before.1 (subst (λ k. P k printed) before.0 here),
                ((refl, refl, refl), ap (λ b. b && answered) before.2 ∙ sym (and-true answered)),
              ),
            ),
          ),
        ),
      )
  delivered_more (first ∷ others) job sink out stored printed all answered
      (a, (r, (k, (t, (here, (rest, e)))))) last = (
        a,
        (
          r && answered,
          (
            k,
            (
              t,
              (
                here,
                (
                  delivered_more others job (record sink { old = k })
                      (record out { old = t }) stored
                      printed r answered rest last,
                  ap (λ b. b && answered) e ∙ and_assoc a r answered,
                ),
              ),
            ),
          ),
        ),
      )

module _ {S : Type 0} (loaded : Loaded) where
  pub forecast_more : (jobs : List ReportJob) (job : ReportJob) (out : Change S)
      (printed : S) (all accepted : Bool)
      → AreJobsForecast loaded jobs (record out { new = printed }) all
      → IsJobForecast loaded job.name.now job.file.now (record out { old = printed }) (Ok accepted)
      → AreJobsForecast loaded (jobs ++ job ∷ []) out (all && accepted)
  forecast_more [] job out printed all accepted before here =
      let P : S → Type 0 = λ s.
      IsJobForecast loaded job.name.now job.file.now (record out { old = s }) (Ok accepted) in (
        accepted,
        (
          true,
          (
            out.new,
            (
              subst P before.0 here,
              ((refl, refl), ap (λ b. b && accepted) before.1 ∙ sym (and-true accepted)),
            ),
          ),
        ),
      )
  forecast_more (first ∷ others) job out printed all accepted
      (a, (r, (t, (here, (rest, e))))) last = (
        a,
        (
          r && accepted,
          (
            t,
            (
              here,
              (
                forecast_more others job (record out { old = t }) printed r accepted rest last,
                ap (λ b. b && accepted) e ∙ and_assoc a r accepted,
              ),
            ),
          ),
        ),
      )

-- a report that was kept, and its line printed
pub stored_run : {K S : Type 0} (loaded : Loaded) (name file : List ℕ) (run : RunText)
    (sink : SinkChange K) (out : Change S) → IsFileRunOver loaded.visits loaded.database file run
    → HasStored sink name run.report → HasGained out (run_line name run)
    → IsJobRun loaded name file sink out (Ok true)
stored_run loaded name file run sink out printed stored gained = (
  run_line name run,
  record { run = run; printed = printed; stored = stored; lined = refl },
  gained,
)

-- the line of a fault that is due was printed, or not to its end
refusal_delivered : {K S : Type 0} (loaded : Loaded) (name file : List ℕ) (fault : EngineFault)
    (sink : SinkChange K) (out : Change S) (result : Result Bool Halt) → HasStoredNone sink
    → IsForecastErrorOver loaded.visits loaded.database file fault
    → IsRefusalPrinted name fault out result → IsJobRun loaded name file sink out result
refusal_delivered loaded name file fault sink out (Ok answered) none due printed =
    let line = refused_line name fault in
    let refused : IsDue loaded name file sink false line =
    (record { fault = fault; due = due; printed = refl }, none) in
    (line, subst (λ b. IsDue loaded name file sink b line) (sym printed.0) refused, printed.1)
refusal_delivered loaded name file fault sink out (Err OutOfMemory) none due printed =
    (printed, inl none)
refusal_delivered loaded name file fault sink out (Err (Unstored named sent)) none due printed =
    absurd printed
refusal_delivered loaded name file fault sink out (Err (Unwritten sent)) none due printed = (
  false,
  (
    refused_line name fault,
    ((record { fault = fault; due = due; printed = refl }, none), printed),
  ),
)

-- of want of memory no line was printed
pub refused_delivered : {K S : Type 0} (loaded : Loaded) (name file : List ℕ) (fault : EngineFault)
    (sink : SinkChange K) (out : Change S) (result : Result Bool Halt) → HasStoredNone sink
    → OrMemory (IsForecastErrorOver loaded.visits loaded.database file) fault
    → IsRefusalPrinted name fault out result → (fault ≡ engine.OutOfMemory → result
    ≡ Err OutOfMemory)
    → IsJobRun loaded name file sink out result
refused_delivered loaded name file engine.OutOfMemory sink out result none due printed memory =
    let untold = subst (λ r. IsRefusalPrinted name engine.OutOfMemory out r)
    (memory refl) printed in
    subst (λ r. IsJobRun loaded name file sink out r) (sym (memory refl)) (untold, inl none)
refused_delivered loaded name file (engine.Write sent) sink out result none due printed memory =
    absurd due
refused_delivered loaded name file fault sink out result none due printed memory =
    refusal_delivered loaded name file fault sink out result none due printed

-- a report that was printed, and could not be kept or its line not written
pub stored_halted : {K S : Type 0} (loaded : Loaded) (name file : List ℕ) (run : RunText)
    (sink : SinkChange K) (out : Change S) (halt : Halt)
    → IsFileRunOver loaded.visits loaded.database file run
    → IsStoredAndPrinted name run sink out (Err halt)
    → IsJobRun loaded name file sink out (Err halt)
stored_halted loaded name file run sink out OutOfMemory printed is = (
  is.0,
  elim is.1 [
    | inl none ↦ inl none
    | inr stored ↦ inr (
      run_line name run,
      record { run = run; printed = printed; stored = stored; lined = refl },
    )
  ],
)
stored_halted loaded name file run sink out (Unstored named sent) printed is =
    (is.0, record { run = run; printed = printed; failed = is.1 }, is.2)
stored_halted loaded name file run sink out (Unwritten sent) printed is = (
  true,
  (
    run_line name run,
    (record { run = run; printed = printed; stored = is.0; lined = refl }, is.1),
  ),
)

-- a forecast whose line could not be written
pub forecast_halted : {S : Type 0} (loaded : Loaded) (name file forecast line : List ℕ)
    (out : Change S) (halt : Halt) → IsForecastOver loaded.visits loaded.database file forecast
    → line ≡ named_line name forecast → IsLineWritten out line (Err halt)
    → IsJobForecast loaded name file out (Err halt)
forecast_halted loaded name file forecast line out OutOfMemory judged lined never = absurd never
forecast_halted loaded name file forecast line out (Unstored named sent) judged lined never =
    absurd never
forecast_halted loaded name file forecast line out (Unwritten sent) judged lined part =
    (true, (line, ((forecast, judged, lined), part)))

-- ---- by their positions

module _ {K S : Type 0} (loaded : Loaded) (jobs : List ReportJob) (i : ℕ) (d : ReportJob)
    (below : i < length jobs) (sink : SinkChange K) (out : Change S) (stored : K) (printed : S)
    (all : Bool)
    (before : AreJobsRun loaded (take i jobs) (record sink { new = stored })
    (record out { new = printed }) all) where
  pub delivered_next : (answered : Bool)
      → IsJobRun loaded (get_or jobs i d).name.now (get_or jobs i d).file.now
      (record sink { old = stored }) (record out { old = printed }) (Ok answered)
      → AreJobsRun loaded (take (i + 1) jobs) sink out (all && answered)
  delivered_next answered here =
      subst (λ es. AreJobsRun loaded es sink out (all && answered))
      (sym (take_more jobs i d below))
      (delivered_more loaded (take i jobs) (get_or jobs i d) sink out stored printed all answered
      before here)

  pub delivery_halted : (halt : Halt)
      → IsJobRun loaded (get_or jobs i d).name.now (get_or jobs i d).file.now
      (record sink { old = stored }) (record out { old = printed }) (Err halt)
      → IsHalted loaded jobs sink out halt
  delivery_halted halt here = record {
    before = take i jobs;
    here = get_or jobs i d;
    behind = drop (suc i) jobs;
    parts = sym (take-append-drop i jobs)
        ∙ ap (λ l. take i jobs ++ l) (drop-cons jobs i d below);
    all = all;
    stored = stored;
    printed = printed;
    delivered = before;
    halted = here;
  }

module _ {S : Type 0} (loaded : Loaded) (jobs : List ReportJob) (i : ℕ) (d : ReportJob)
    (below : i < length jobs) (out : Change S) (printed : S) (all : Bool)
    (before : AreJobsForecast loaded (take i jobs) (record out { new = printed }) all) where
  pub forecast_next : (accepted : Bool)
      → IsJobForecast loaded (get_or jobs i d).name.now (get_or jobs i d).file.now
      (record out { old = printed }) (Ok accepted)
      → AreJobsForecast loaded (take (i + 1) jobs) out (all && accepted)
  forecast_next accepted here =
      subst (λ es. AreJobsForecast loaded es out (all && accepted)) (sym (take_more jobs i d below))
      (forecast_more loaded (take i jobs) (get_or jobs i d) out printed all accepted before here)

  pub judging_halted : (halt : Halt)
      → IsJobForecast loaded (get_or jobs i d).name.now (get_or jobs i d).file.now
      (record out { old = printed }) (Err halt)
      → IsForecastHalted loaded jobs out halt
  judging_halted halt here = record {
    before = take i jobs;
    here = get_or jobs i d;
    behind = drop (suc i) jobs;
    parts = sym (take-append-drop i jobs)
        ∙ ap (λ l. take i jobs ++ l) (drop-cons jobs i d below);
    all = all;
    printed = printed;
    judged = before;
    halted = here;
  }
