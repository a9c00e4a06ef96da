use Rattle.std.proofs.{Common.false, Common.refl, lemmas.Result.err_from_is_err_and}
use Rattle.star_engine.{specs.Answered.change, specs.Queries.{IsQueryError, IsQueryQuoteOver, IsQueryRunErrorOver, IsQueryRunOver}, proofs.Noting.noted_stopped, proofs.RunTextLemmas.unread}
use Rattle.star_service.proofs.sessions.answer_query.Goals as goal

pub returns-in_err-question : goal.returns-in_err-question
returns-in_err-question g c =
    let p = err_from_is_err_and c.from_residual.result c.from_residual.ensures.1 in
    let visits = c.args.engine.now.visits in
    let database = c.args.engine.now.database in
    let query = c.args.query.now in
    rw (p.1, p.2)
    (noted_stopped (change g.S.Sink.contents g.S.Sink.is_failed c.args.out.now c.args.out.now)
    (change g.N.Sink.contents g.N.Sink.is_failed c.args.notes.now c.args.notes.now)
    (IsQueryQuoteOver database query) (IsQueryRunOver visits database query) (IsQueryError query)
    (IsQueryRunErrorOver visits database query) c.in_err-question.field-0.0 refl refl
    (λ refusal never. never) (unread false visits database query) c.in_err-question.ensures)

pub returns : goal.returns
returns g c = c.answer.ensures false c.args.query.now c.in_ok-question.ensures
