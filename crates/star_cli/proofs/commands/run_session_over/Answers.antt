use Rattle.std.proofs.Common.{inr}
use Rattle.star_engine.specs.Answered.{change}
use Rattle.star_cli.{specs.Commands.input_of, proofs.Steps.{fresh, held}}
use Rattle.star_cli.proofs.commands.run_session_over.Goals as goal

pub returns-in-Ok : goal.returns-in-Ok
returns-in-Ok g c =
    let input = c.args.input in
    held (change g.S.Sink.contents g.S.Sink.is_failed c.args.out.now c.run_session.new.out)
    (change g.E.Sink.contents g.E.Sink.is_failed c.args.err.now c.run_session.new.err)
    c.run_session.result
    c.args.engine.now (input_of (g.I.Read.remaining input.reader) input.is_terminal) _ _ _
    (rw c.new-in-Ok.ensures.reader
    (fresh g.I.Read.remaining c.in-Ok.reader input.reader c.in-Ok.ensures.inner
    c.in-Ok.ensures.empty c.in-Ok.ensures.capacity)) c.run_session.ensures

pub returns-in-Err : goal.returns-in-Err
returns-in-Err g c = inr c.print.ensures
