use Rattle.std.proofs.{Common.{◌∙◌, refl}, lemmas.Result.err_from_is_err_and}
use Rattle.star_report.specs.Report.{report_text}
use Rattle.star_engine.{specs.Answered.change, specs.Notes.counts_line, proofs.Noting.report_broken}
use Rattle.star_merger.proofs.writing.write_run.Goals as goal

pub returns-in_err-write_text : goal.returns-in_err-write_text
returns-in_err-write_text g c =
    let outcome = c.args.outcome.now in
    let p = err_from_is_err_and c.from_residual-in_err-write_text.result
    c.from_residual-in_err-write_text.ensures.1 in
    rw (p.1, p.2)
    (report_broken (change g.S.Sink.contents g.S.Sink.is_failed c.args.out.now c.write_text.new.out)
    (change g.N.Sink.contents g.N.Sink.is_failed c.args.notes.now c.args.notes.now)
    c.as_slice.result.now (report_text outcome.names outcome.rows)
    (counts_line outcome.visits outcome.lookups outcome.updates)
    c.in_err-write_text.field-0.0 (c.as_slice.ensures.value ∙ c.in_ok-report.ensures)
    c.in_err-write_text.ensures refl)
