use Rattle.std.proofs.Common.{take}
use Rattle.star_engine.specs.Answered.{change}
use Rattle.star_service.specs.{ReportSinks.sink_change, Reports.AreJobsRun}
use Rattle.star_service.proofs.reports.run_jobs.Given as goal

abbrev pub invariant-loop-job : goal.invariant-loop-job
invariant-loop-job g l =
    AreJobsRun l.engine (take l.job-index l.jobs)
    (sink_change g.K.ReportSink.reports g.K.ReportSink.failed_at l.initial.sink l.sink)
    (change g.S.Sink.contents g.S.Sink.is_failed l.initial.out l.out) l.all
