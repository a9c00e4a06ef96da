use Rattle.std.proofs.Common.{take}
use Rattle.star_engine.specs.Answered.{change}
use Rattle.star_service.specs.Reports.{AreJobsForecast}
use Rattle.star_service.proofs.reports.forecast_jobs.Given as goal

abbrev pub invariant-loop-job : goal.invariant-loop-job
invariant-loop-job g l =
    AreJobsForecast l.engine (take l.job-index l.jobs)
    (change g.S.Sink.contents g.S.Sink.is_failed l.initial.out l.out) l.all
