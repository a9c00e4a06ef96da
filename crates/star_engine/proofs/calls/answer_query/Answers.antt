use Rattle.std.specs.Prelude.{false}
use Rattle.star_catalogue.specs.Load.{texts_view}
use Rattle.star_engine.{specs.Answered.change, specs.Queries.{IsQueryQuote, IsQueryRun, IsQueryRunError, IsReportOf}, proofs.ByClauses.run_by_clauses}
use Rattle.star_engine.proofs.calls.answer_query.Goals as goal

pub returns : goal.returns
returns g c =
    let texts = texts_view c.args.texts.now in
    let rows = c.args.limits.rows in
    let visits = c.args.limits.visits in
    let query = c.args.query.now in
    let (p, n, b, r, m) = run_by_clauses
    (change g.S.Sink.contents g.S.Sink.is_failed c.args.out.now c.answer.new.out)
    (change g.N.Sink.contents g.N.Sink.is_failed c.args.notes.now c.answer.new.notes)
    (IsQueryQuote rows texts query) (IsQueryRun rows visits texts query)
    (IsQueryRunError rows visits texts query) (IsReportOf rows texts query)
    (λ run told. record { loadable = told.loadable; holds = told.holds.reported })
    c.answer.result (c.answer.ensures false query c.query-question.ensures) in
    record { reported = p; noted = n; broken = b; refused = r; memory = m }
