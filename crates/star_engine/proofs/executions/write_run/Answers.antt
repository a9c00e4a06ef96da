use Rattle.std.{proofs.Common.refl, proofs.lemmas.Result.err_from_is_err_and, specs.Prelude.string_bytes}
use Rattle.star_engine.{specs.Answered.change, proofs.Noting.report_broken}
use Rattle.star_engine.proofs.executions.write_run.Goals as goal

pub returns-in_err-write_text : goal.returns-in_err-write_text
returns-in_err-write_text g c =
    let p = err_from_is_err_and c.from_residual.result c.from_residual.ensures.1 in
    rw (p.1, p.2)
    (report_broken (change g.S.Sink.contents g.S.Sink.is_failed c.args.out.now c.write_text.new.out)
    (change g.N.Sink.contents g.N.Sink.is_failed c.args.notes.now c.args.notes.now)
    c.as_slice.result.now c.args.ran.now.report.items (string_bytes c.args.ran.now.done)
    c.in_err-write_text.field-0.0 c.as_slice.ensures.value c.in_err-write_text.ensures refl)
