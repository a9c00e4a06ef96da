use Rattle.std.proofs.Common.{inr, refl}
use Rattle.star_engine.specs.Answered.{change}
use Rattle.star_cli.{specs.Commands.reports_unready, specs.declared.failure.Failure.TheVariants.OutOfMemory, proofs.Steps.reports_by}
use Rattle.star_cli.proofs.commands.report_loaded.Goals as goal

pub returns-in-Ok : goal.returns-in-Ok
returns-in-Ok g c = λ read from.
    reports_by _ (change g.S.Sink.contents g.S.Sink.is_failed c.args.out.now c.end.new.out)
    (change g.E.Sink.contents g.E.Sink.is_failed c.args.err.now c.end.new.err) c.end.result
    (g.R.Store.known c.args.rt.now) c.args.asked.now c.args.files.now c.as_slice.result.now
    c.args.engine.now c.report_over-made.result c.report_over-made.new.out c.args.asked.now.is_quote
    refl read (rw c.as_slice.ensures.value c.in-Ok.ensures) from c.report_over-made.ensures.quoted
    c.report_over-made.ensures.made c.end.ensures

pub returns-in-Err : goal.returns-in-Err
returns-in-Err g c = λ read from. reports_unready OutOfMemory (inr tt) c.print.ensures
