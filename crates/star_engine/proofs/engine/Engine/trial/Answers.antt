use Rattle.star_engine.{specs.Answered.change, specs.Trials.{IsBoundedReport, IsTrialErrorOver}, proofs.ByClauses.written}
use Rattle.star_engine.proofs.engine.Engine.trial.Goals as goal

pub write_text-requires : goal.write_text-requires
write_text-requires g c = rw c.as_slice.ensures.value c.in_ok-report.ensures.some

pub returns : goal.returns
returns g c = λ file asks.
    let database = c.self.inside.catalogue in
    rw (← c.self.view_is) (written
    (change g.S.Sink.contents g.S.Sink.is_failed c.args.out.now c.write_text.new.out)
    c.as_slice.result.now (IsBoundedReport database file c.args.visits)
    (IsTrialErrorOver database file c.args.visits) c.write_text.result
    (rw c.as_slice.ensures.value (c.in_ok-report.ensures.ran file asks)) c.write_text.ensures)
