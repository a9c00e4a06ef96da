use Rattle.std.{proofs.Common.{◌∙◌, ap, subst, sym}, proofs.lemmas.Result.err_from_is_err_and, specs.Prelude.Err}
use Rattle.star_engine.{specs.Answered.change, specs.Bench.IsBenchOver, proofs.BenchAnswers.{bench_some, unwritten}}
use Rattle.star_engine.proofs.engine.Engine.bench.Goals as goal

pub write_text-requires : goal.write_text-requires
write_text-requires g c =
    rw c.as_slice.ensures.value
    (bench_some c.self.inside.limits.visits c.self.inside.catalogue c.in_ok-found.found.text.items
    c.in_ok-found.ensures.0)

pub returns-in_err-write_text-clause-answered : goal.returns-in_err-write_text-clause-answered
returns-in_err-write_text-clause-answered g c =
    let from = c.from_residual-in_err-write_text in
    let p = err_from_is_err_and from.result from.ensures.1 in
    let is = IsBenchOver c.self.inside.limits.visits c.self.inside.catalogue in
    rw (← c.self.view_is) (unwritten
    (change g.S.Sink.contents g.S.Sink.is_failed c.args.out.now c.write_text.new.out)
    c.as_slice.result.now is (λ fault. ⊥) from.result
    c.in_err-write_text.field-0.0 (p.1 ∙ ap Err p.2)
    (subst is (sym c.as_slice.ensures.value) c.in_ok-found.ensures.0) c.in_err-write_text.ensures)

pub returns-clause-answered : goal.returns-clause-answered
returns-clause-answered g c =
    rw (← c.self.view_is) (
      c.as_slice.result.now,
      rw c.as_slice.ensures.value c.in_ok-found.ensures.0,
      c.in_ok-write_text.ensures,
    )

pub returns-clause-fits : goal.returns-clause-fits
returns-clause-fits g c = rw (← c.self.view_is) c.in_ok-found.ensures.1
