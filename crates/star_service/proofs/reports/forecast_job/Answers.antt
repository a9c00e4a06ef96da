use Rattle.std.{proofs.Common.{◌∙◌, ap}, proofs.lemmas.Result.err_from_is_err_and, specs.Prelude.string_bytes}
use Rattle.star_engine.specs.Answered.{change}
use Rattle.star_service.{specs.Reports.named_line, proofs.ReportLemmas.forecast_halted}
use Rattle.star_service.proofs.reports.forecast_job.Goals as goal

pub returns-in_err-write_line-in-Ok : goal.returns-in_err-write_line-in-Ok
returns-in_err-write_line-in-Ok g c =
    let p = err_from_is_err_and c.from_residual-in_err-write_line-in-Ok.result
    c.from_residual-in_err-write_line-in-Ok.ensures.1 in
    rw (p.1, p.2)
    (forecast_halted c.args.engine.now c.args.job.name.now c.args.job.file.now
    (string_bytes c.in-Ok.forecast) c.as_slice.result.now
    (change g.S.Sink.contents g.S.Sink.is_failed c.args.out.now c.write_line.new.out)
    c.in_err-write_line-in-Ok.field-0.0 c.in-Ok.ensures
    (c.as_slice.ensures.value ∙ c.in_ok-line-in-Ok.ensures
    ∙ ap (named_line c.args.job.name.now) c.as_bytes.ensures.value)
    c.in_err-write_line-in-Ok.ensures)
