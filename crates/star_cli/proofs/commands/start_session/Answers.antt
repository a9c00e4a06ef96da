use Rattle.std.proofs.Common.{◌≡◌, subst}
use Rattle.star_engine.specs.Answered.{change}
use Rattle.star_service.specs.Lines.{IsTextPrinted}
use Rattle.star_cli.{specs.Commands.{greeting_of, input_of, session_held, session_refused}, proofs.Steps.held_after}
use Rattle.star_cli.proofs.commands.start_session.Goals as goal

pub returns-in-Ok : goal.returns-in-Ok
returns-in-Ok g c =
    let err = change g.E.Sink.contents g.E.Sink.is_failed c.args.err.now c.print.new.sink in
    let same : c.as_bytes.result.now ≡ greeting_of c.args.input.is_terminal = cc in
    let printed : IsTextPrinted err (greeting_of c.args.input.is_terminal) =
    subst (IsTextPrinted err) same c.print.ensures in
    session_held c.print.new.sink c.in-Ok.engine printed c.in-Ok.ensures.engine
    (held_after g.S.Sink.contents g.S.Sink.is_failed g.E.Sink.contents g.E.Sink.is_failed
    c.args.out.now c.load_engine.new.out c.run_session_over.new.out c.print.new.sink
    c.load_engine.new.err
    c.run_session_over.new.err c.in-Ok.ensures.silent.0 c.in-Ok.ensures.silent.1
    c.run_session_over.result
    c.in-Ok.engine (input_of (g.I.Read.remaining c.args.input.reader) c.args.input.is_terminal)
    c.run_session_over.ensures)

pub returns-in-Err : goal.returns-in-Err
returns-in-Err g c =
    let err = change g.E.Sink.contents g.E.Sink.is_failed c.args.err.now c.print.new.sink in
    let same : c.as_bytes.result.now ≡ greeting_of c.args.input.is_terminal = cc in
    session_refused c.print.new.sink (subst (IsTextPrinted err) same c.print.ensures)
    c.in-Err.ensures.printed
