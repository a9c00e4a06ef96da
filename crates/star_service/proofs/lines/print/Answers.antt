use Rattle.star_service.proofs.PrintingFaults.{printed}
use Rattle.star_engine.specs.Answered.{change}
use Rattle.star_service.proofs.lines.print.Goals as goal

pub returns : goal.returns
returns g c = printed
    (change g.S.Sink.contents g.S.Sink.is_failed c.args.sink.now c.write_whole.new.sink) _
    c.write_whole.result c.write_whole.ensures.empty c.write_whole.ensures.ok
    c.write_whole.ensures.whole c.write_whole.ensures.prefix c.write_whole.ensures.failed
