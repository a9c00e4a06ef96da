use Rattle.std.proofs.{Common.{◌≡◌, true, false, refl, rules, subst}, lemmas.Result.err_from_is_err_and}
use Rattle.star_engine.specs.Answered.{change}
use Rattle.star_statements.specs.Sources.{has_failed, reader_of}
use Rattle.star_service.{specs.Private.Turns.IsStatementAnswered, proofs.RunningStatements.{begins, comes_to_its_end, goes_on, is_stopped}}
use Rattle.star_service.proofs.sessions.run_statements.Goals as goal

pub statements-init : goal.statements-init
statements-init g c =
    begins c.args.engine.now c.args.is_terminal (g.R.Read.remaining (reader_of c.args.source.now))
    (change g.S.Sink.contents g.S.Sink.is_failed c.args.out.now c.args.out.now)
    (change g.E.Sink.contents g.E.Sink.is_failed c.args.err.now c.args.err.now) refl refl

pub statements-preserved : goal.statements-preserved
statements-preserved g c =
    let is : c.in_ok-turn.field-0 ≡ true = search rules in
    goes_on c.args.engine.now c.args.is_terminal (g.R.Read.remaining (reader_of c.args.source.now))
    (g.R.Read.remaining (reader_of c.statements.source))
    (g.R.Read.remaining (reader_of c.turn.new.source))
    (change g.S.Sink.contents g.S.Sink.is_failed c.args.out.now c.turn.new.out)
    (change g.E.Sink.contents g.E.Sink.is_failed c.args.err.now c.turn.new.err)
    c.statements.out c.statements.err c.statements.counter c.statements.invariant
    (subst (λ b. IsStatementAnswered c.args.engine.now c.args.is_terminal
    (g.R.Read.remaining (reader_of c.statements.source))
    (g.R.Read.remaining (reader_of c.turn.new.source))
    (change g.S.Sink.contents g.S.Sink.is_failed c.statements.out c.turn.new.out)
    (change g.E.Sink.contents g.E.Sink.is_failed c.statements.err c.turn.new.err) b true) is
    c.in_ok-turn.ensures)

pub returns-then-not-branch : goal.returns-then-not-branch
returns-then-not-branch g c =
    let is : c.in_ok-turn.field-0 ≡ false = search rules in
    comes_to_its_end c.args.engine.now c.args.is_terminal
    (g.R.Read.remaining (reader_of c.args.source.now))
    (g.R.Read.remaining (reader_of c.statements.source))
    (g.R.Read.remaining (reader_of c.turn.new.source))
    (change g.S.Sink.contents g.S.Sink.is_failed c.args.out.now c.turn.new.out)
    (change g.E.Sink.contents g.E.Sink.is_failed c.args.err.now c.turn.new.err)
    c.statements.out c.statements.err c.statements.counter c.statements.invariant
    (subst (λ b. IsStatementAnswered c.args.engine.now c.args.is_terminal
    (g.R.Read.remaining (reader_of c.statements.source))
    (g.R.Read.remaining (reader_of c.turn.new.source))
    (change g.S.Sink.contents g.S.Sink.is_failed c.statements.out c.turn.new.out)
    (change g.E.Sink.contents g.E.Sink.is_failed c.statements.err c.turn.new.err) b true) is
    c.in_ok-turn.ensures)

pub returns-in_err-turn : goal.returns-in_err-turn
returns-in_err-turn g c =
    let p = err_from_is_err_and c.from_residual.result c.from_residual.ensures.1 in
    rw (p.1, p.2)
    (is_stopped c.args.engine.now c.args.is_terminal
    (g.R.Read.remaining (reader_of c.args.source.now))
    (g.R.Read.remaining (reader_of c.statements.source))
    (g.R.Read.remaining (reader_of c.turn.new.source))
    (change g.S.Sink.contents g.S.Sink.is_failed c.args.out.now c.turn.new.out)
    (change g.E.Sink.contents g.E.Sink.is_failed c.args.err.now c.turn.new.err)
    c.statements.out c.statements.err c.statements.counter c.statements.invariant
    (has_failed c.turn.new.source) c.in_err-turn.field-0.0 c.in_err-turn.ensures)
