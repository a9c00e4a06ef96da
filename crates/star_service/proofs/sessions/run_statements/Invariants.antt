use Rattle.star_engine.specs.Answered.{change}
use Rattle.star_statements.specs.Sources.{reader_of}
use Rattle.star_service.proofs.RunningStatements.{IsUnderWay}
use Rattle.star_service.proofs.sessions.run_statements.Given as goal

abbrev pub invariant-statements : goal.invariant-statements
invariant-statements g l =
    IsUnderWay l.engine l.is_terminal (g.R.Read.remaining (reader_of l.initial.source))
    (g.R.Read.remaining (reader_of l.source))
    (change g.S.Sink.contents g.S.Sink.is_failed l.initial.out l.out)
    (change g.E.Sink.contents g.E.Sink.is_failed l.initial.err l.err) l.counter
