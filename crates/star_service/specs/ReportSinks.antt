-- The position that keeps reports, before and after a call.
use Rattle.std.specs.Prelude.{◌≡◌, ◌≤◌, ◌++◌, ℕ, List, [], ◌∷◌, Option, Some, None, length, ⊤}
use Rattle.star_service.specs.{declared.report_sink.ReportSinkFault.ReportSinkFault, declared.report_sink.ReportSinkFault.TheVariants.OutOfMemory, declared.report_sink.ReportSinkFault.TheVariants.Write}

-- a report and the name under which it is kept
pub record StoredReport : Type 0 where
  pub name : List ℕ
  pub report : List ℕ

-- a report sink before and after a call, with the reports that such a report sink has, if they are
-- known, and how many bytes of the last report were sent, if a write of it failed
pub record SinkChange (K : Type 0) : Type 0 where
  pub reports : K → Option (List StoredReport)
  pub failed_at : K → Option ℕ
  pub old : K
  pub new : K

abbrev pub sink_change : {K : Type 0} → (K → Option (List StoredReport)) → (K → Option ℕ) → K → K
    → SinkChange K
sink_change reports failed_at old new = record {
  reports = reports;
  failed_at = failed_at;
  old = old;
  new = new;
}

-- known reports are one more
abbrev pub Adds : Option (List StoredReport) → Option (List StoredReport) → StoredReport → Type 0
Adds None new stored = ⊤
Adds (Some reports) None stored = ⊥
Adds (Some reports) (Some more) stored = more ≡ reports ++ stored ∷ []

-- known reports are the same
abbrev pub HaveSameReports : Option (List StoredReport) → Option (List StoredReport) → Type 0
HaveSameReports None new = ⊤
HaveSameReports (Some reports) None = ⊥
HaveSameReports (Some reports) (Some same) = same ≡ reports

-- the report sink has this report more, under this name, and no write of it failed
pub record HasStored {K : Type 0} (sink : SinkChange K) (name report : List ℕ) : Type 0 where
  pub stored : Adds (sink.reports sink.old) (sink.reports sink.new)
      (record { name = name; report = report })
  pub not_failed : sink.failed_at sink.new ≡ None

-- the report sink has no report more, and no write has failed since
pub record HasStoredNone {K : Type 0} (sink : SinkChange K) : Type 0 where
  pub same : HaveSameReports (sink.reports sink.old) (sink.reports sink.new)
  pub untried : sink.failed_at sink.new ≡ sink.failed_at sink.old

-- the report sink has no report more: a write of this one failed, `sent` bytes into it or at its
-- end
pub record HasFailedAt {K : Type 0} (sink : SinkChange K) (report : List ℕ)
    (sent : ℕ) : Type 0 where
  pub part : sent ≤ length report
  pub same : HaveSameReports (sink.reports sink.old) (sink.reports sink.new)
  pub failed : sink.failed_at sink.new ≡ Some sent

-- why a report was not kept
abbrev pub IsStoreError : {K : Type 0} → SinkChange K → (report : List ℕ) → ReportSinkFault → Type 0
IsStoreError sink report OutOfMemory = HasStoredNone sink
IsStoreError sink report (Write sent) = HasFailedAt sink report sent
