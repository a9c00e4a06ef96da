use Rattle.star_cli.{specs.Commands.reports_unloaded, proofs.Steps.done_after}
use Rattle.star_cli.proofs.commands.report_read.Goals as goal

pub returns-in-Ok : goal.returns-in-Ok
returns-in-Ok g c = λ read.
    done_after g.S.Sink.contents g.S.Sink.is_failed g.E.Sink.contents g.E.Sink.is_failed
    c.args.out.now c.load_engine.new.out c.report_loaded.new.out c.args.err.now
    c.load_engine.new.err c.report_loaded.new.err c.in-Ok.ensures.silent.0
    c.in-Ok.ensures.silent.1 c.report_loaded.result _
    (g.R.Store.known c.args.rt.now) c.args.asked.now
    (c.report_loaded.ensures read c.in-Ok.ensures.engine)

pub returns-in-Err : goal.returns-in-Err
returns-in-Err g c = λ read. reports_unloaded c.in-Err.ensures.printed
