use Rattle.std.proofs.lemmas.Result.{err_from_is_err_and}
use Rattle.star_engine.specs.{Answered.change, RunTexts.run_text_of}
use Rattle.star_service.{specs.ReportSinks.sink_change, proofs.ReportLemmas.{stored_none, stored_run, stored_halted, refused_delivered}}
use Rattle.star_service.proofs.reports.run_job.Goals as goal

pub returns-in_err-store_report-in-Ok : goal.returns-in_err-store_report-in-Ok
returns-in_err-store_report-in-Ok g c =
    let p = err_from_is_err_and c.from_residual.result c.from_residual.ensures.1 in
    rw (p.1, p.2)
    (stored_halted c.args.engine.now c.args.job.name.now c.args.job.file.now
    (run_text_of c.in-Ok.printed)
    (sink_change g.K.ReportSink.reports g.K.ReportSink.failed_at c.args.sink.now
    c.store_report.new.sink)
    (change g.S.Sink.contents g.S.Sink.is_failed c.args.out.now c.store_report.new.out)
    c.in_err-store_report-in-Ok.field-0.0 c.in-Ok.ensures c.in_err-store_report-in-Ok.ensures)

pub returns-in_ok-store_report-in-Ok : goal.returns-in_ok-store_report-in-Ok
returns-in_ok-store_report-in-Ok g c =
    stored_run c.args.engine.now c.args.job.name.now c.args.job.file.now
    (run_text_of c.in-Ok.printed)
    (sink_change g.K.ReportSink.reports g.K.ReportSink.failed_at c.args.sink.now
    c.store_report.new.sink)
    (change g.S.Sink.contents g.S.Sink.is_failed c.args.out.now c.store_report.new.out)
    c.in-Ok.ensures c.in_ok-store_report-in-Ok.ensures.0 c.in_ok-store_report-in-Ok.ensures.1

pub returns-in-Err : goal.returns-in-Err
returns-in-Err g c =
    refused_delivered c.args.engine.now c.args.job.name.now c.args.job.file.now c.in-Err.fault
    (sink_change g.K.ReportSink.reports g.K.ReportSink.failed_at c.args.sink.now c.args.sink.now)
    (change g.S.Sink.contents g.S.Sink.is_failed c.args.out.now c.print_refusal.new.out)
    c.print_refusal.result (stored_none g.K.ReportSink.reports g.K.ReportSink.failed_at
    c.args.sink.now)
    c.in-Err.ensures
    c.print_refusal.ensures.printed c.print_refusal.ensures.memory
