use Rattle.star_engine.{specs.Answered.change, proofs.RunTextLemmas.noted}
use Rattle.star_engine.proofs.engine.Engine.answer.Goals as goal

pub returns : goal.returns
returns g c = λ is_program file asks.
    let most = c.self.inside.limits.visits in
    rw (← c.self.view_is) (noted most c.self.inside.catalogue file c.args.question.program
    (c.each_query_has_laws.ensures most file)
    (change g.S.Sink.contents g.S.Sink.is_failed c.args.out.now c.execute.new.out)
    (change g.N.Sink.contents g.N.Sink.is_failed c.args.notes.now c.execute.new.notes)
    c.execute.result is_program asks c.execute.ensures)
