use Rattle.std.proofs.lemmas.Result.{err_from_is_err_and}
use Rattle.star_engine.specs.Answered.{change}
use Rattle.star_service.proofs.ReportLemmas.{forecast_next, judging_halted}
use Rattle.star_service.proofs.reports.forecast_jobs.Goals as goal

pub loop-job-preserved : goal.loop-job-preserved
loop-job-preserved g c =
    forecast_next c.args.engine.now c.args.jobs.now c.loop-job.job-index _
    c.loop-job-test.true
    (change g.S.Sink.contents g.S.Sink.is_failed c.args.out.now c.forecast_job.new.out)
    c.loop-job.out c.loop-job.all c.loop-job.invariant
    c.in_ok-accepted.accepted c.in_ok-accepted.ensures

pub returns-in_err-accepted : goal.returns-in_err-accepted
returns-in_err-accepted g c =
    let p = err_from_is_err_and c.from_residual.result c.from_residual.ensures.1 in
    rw (p.1, p.2)
    (judging_halted c.args.engine.now c.args.jobs.now c.loop-job.job-index _
    c.loop-job-test.true
    (change g.S.Sink.contents g.S.Sink.is_failed c.args.out.now c.forecast_job.new.out)
    c.loop-job.out c.loop-job.all c.loop-job.invariant
    c.in_err-accepted.field-0.0 c.in_err-accepted.ensures)
