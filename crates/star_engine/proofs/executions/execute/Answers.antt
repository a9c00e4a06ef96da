use Rattle.std.proofs.{Common.{◌∙◌, Err, ap, refl, sym}, lemmas.Result.err_from_is_err_and}
use Rattle.star_engine.{specs.Answered.change, specs.Executions.{IsQuote, IsProgramRun, quote_over}, specs.Private.Steps.IsNotVerified, specs.RunTexts.run_text_of, proofs.Executing.{note_has_bytes, quote_some, report_has_bytes}, proofs.Noting.{delivered, note_broken}}
use Rattle.star_engine.proofs.executions.execute.Goals as goal

pub write_note-requires : goal.write_note-requires
write_note-requires g c =
    rw (c.as_bytes.ensures.value ∙ c.in_ok-note.ensures)
    (quote_some (quote_over c.args.catalogue.now c.args.program))

pub returns-in_err-write_note : goal.returns-in_err-write_note
returns-in_err-write_note g c =
    let p = err_from_is_err_and c.from_residual-in_err-write_note.result
    c.from_residual-in_err-write_note.ensures.1 in
    let ran = c.in_err-write_note.ensures in
    note_broken (change g.S.Sink.contents g.S.Sink.is_failed c.args.out.now c.args.out.now)
    (change g.N.Sink.contents g.N.Sink.is_failed c.args.notes.now c.write_note.new.notes)
    (IsQuote c.args.catalogue.now c.args.program)
    (IsProgramRun c.args.catalogue.now c.args.limits.visits c.args.program)
    (IsNotVerified c.args.catalogue.now c.args.limits.visits c.args.program)
    c.as_bytes.result.now c.from_residual-in_err-write_note.result
    (p.1 ∙ ap Err (p.2 ∙ ran.0)) (c.as_bytes.ensures.value ∙ c.in_ok-note.ensures) ran.1 refl

pub write_run-requires-clause-report : goal.write_run-requires-clause-report
write_run-requires-clause-report g c =
    report_has_bytes c.args.catalogue.now c.args.limits.visits c.args.program
    (run_text_of c.in_ok-ran.ran) c.in_ok-ran.ensures

pub write_run-requires-clause-done : goal.write_run-requires-clause-done
write_run-requires-clause-done g c =
    note_has_bytes c.args.catalogue.now c.args.limits.visits c.args.program
    (run_text_of c.in_ok-ran.ran) c.in_ok-ran.ensures

pub returns : goal.returns
returns g c =
    let ran = c.in_ok-ran.ensures in
    let noted = rw (c.as_bytes.ensures.value ∙ c.in_ok-note.ensures ∙ sym ran.quoted) at
    c.in_ok-write_note.ensures in
    delivered (change g.S.Sink.contents g.S.Sink.is_failed c.args.out.now c.write_run.new.out)
    g.N.Sink.contents g.N.Sink.is_failed c.args.notes.now c.write_note.new.notes
    c.write_run.new.notes (IsQuote c.args.catalogue.now c.args.program)
    (IsProgramRun c.args.catalogue.now c.args.limits.visits c.args.program)
    (IsNotVerified c.args.catalogue.now c.args.limits.visits c.args.program)
    (run_text_of c.in_ok-ran.ran) c.write_run.result ran.quoted ran noted c.write_run.ensures
