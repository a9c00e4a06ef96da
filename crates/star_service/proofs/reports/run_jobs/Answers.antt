use Rattle.std.proofs.lemmas.Result.{err_from_is_err_and}
use Rattle.star_engine.specs.Answered.{change}
use Rattle.star_service.{specs.ReportSinks.sink_change, proofs.ReportLemmas.{delivered_next, delivery_halted}}
use Rattle.star_service.proofs.reports.run_jobs.Goals as goal

pub loop-job-preserved : goal.loop-job-preserved
loop-job-preserved g c =
    delivered_next c.args.engine.now c.args.jobs.now c.loop-job.job-index _
    c.loop-job-test.true
    (sink_change g.K.ReportSink.reports g.K.ReportSink.failed_at c.args.sink.now c.run_job.new.sink)
    (change g.S.Sink.contents g.S.Sink.is_failed c.args.out.now c.run_job.new.out)
    c.loop-job.sink c.loop-job.out c.loop-job.all c.loop-job.invariant
    c.in_ok-answered.answered c.in_ok-answered.ensures

pub returns-in_err-answered : goal.returns-in_err-answered
returns-in_err-answered g c =
    let p = err_from_is_err_and c.from_residual.result c.from_residual.ensures.1 in
    rw (p.1, p.2)
    (delivery_halted c.args.engine.now c.args.jobs.now c.loop-job.job-index _
    c.loop-job-test.true
    (sink_change g.K.ReportSink.reports g.K.ReportSink.failed_at c.args.sink.now c.run_job.new.sink)
    (change g.S.Sink.contents g.S.Sink.is_failed c.args.out.now c.run_job.new.out)
    c.loop-job.sink c.loop-job.out c.loop-job.all c.loop-job.invariant
    c.in_err-answered.field-0.0 c.in_err-answered.ensures)
