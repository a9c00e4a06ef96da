use Rattle.std.proofs.Common.{inl, inr, refl}
use Rattle.star_engine.specs.Answered.{change}
use Rattle.star_cli.proofs.Giving.{benched, listed}
use Rattle.star_cli.proofs.answers.list_and_bench.Goals as goal

pub returns-in-Ok : goal.returns-in-Ok
returns-in-Ok g c = λ texts loadable loaded.
    let checked = change g.S.Sink.contents g.S.Sink.is_failed c.args.out.now c.check.new.out in
    let first = listed checked texts loadable c.check.result (rw loaded at c.check.ensures) in
    inr (
      c.check.new.out,
      rw c.in-Ok.is at first,
      benched (change g.S.Sink.contents g.S.Sink.is_failed c.check.new.out c.bench.new.out) texts
          loadable c.bench.result (rw loaded at c.bench.ensures.answered)
          (rw loaded at c.bench.ensures.fits),
    )

pub returns-in-Err : goal.returns-in-Err
returns-in-Err g c = λ texts loadable loaded.
    let checked = change g.S.Sink.contents g.S.Sink.is_failed c.args.out.now c.check.new.out in
    let first = listed checked texts loadable c.check.result (rw loaded at c.check.ensures) in
    inl (c.in-Err.fault, rw c.in-Err.is at first, refl)
