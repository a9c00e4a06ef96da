use Rattle.std.specs.Prelude.{true}
use Rattle.star_catalogue.specs.Load.{texts_view}
use Rattle.star_engine.{specs.Answered.change, specs.Executions.{IsFileReport, IsQuoteOf, IsRunError, IsRunOf}, proofs.ByClauses.run_by_clauses, proofs.OneReport.file_report}
use Rattle.star_engine.proofs.calls.answer_program.Goals as goal

pub returns : goal.returns
returns g c =
    let texts = texts_view c.args.texts.now in
    let rows = c.args.limits.rows in
    let visits = c.args.limits.visits in
    let file = c.args.file.now in
    let (p, n, b, r, m) = run_by_clauses
    (change g.S.Sink.contents g.S.Sink.is_failed c.args.out.now c.answer.new.out)
    (change g.N.Sink.contents g.N.Sink.is_failed c.args.notes.now c.answer.new.notes)
    (IsQuoteOf rows texts file) (IsRunOf rows visits texts file)
    (IsRunError rows visits texts file) (IsFileReport rows texts file)
    (file_report rows visits texts file) c.answer.result
    (c.answer.ensures true file c.program-question.ensures) in
    record { reported = p; noted = n; broken = b; refused = r; memory = m }
