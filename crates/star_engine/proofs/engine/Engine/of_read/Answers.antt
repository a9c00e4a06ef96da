use Rattle.std.proofs.{Common.refl, lemmas.Result.err_from_is_err_and}
use Rattle.star_engine.proofs.engine.Engine.of_read.Goals as goal

pub returns-in_err-catalogue-clause-refused : goal.returns-in_err-catalogue-clause-refused
returns-in_err-catalogue-clause-refused c = λ texts are.
    let p = err_from_is_err_and c.from_residual.result c.from_residual.ensures.1 in
    rw (p.1, p.2) (c.in_err-catalogue.ensures c.args.limits.rows texts are)

pub invariant_of-result : goal.invariant_of-result
invariant_of-result c =
    let (texts, are) = c.requires in
    let loaded = c.in_ok-catalogue.ensures c.args.limits.rows texts are in
    ∣ (texts, loaded.0, loaded.1) ∣₁

pub returns-clause-loadable : goal.returns-clause-loadable
returns-clause-loadable c = λ texts are. (c.in_ok-catalogue.ensures c.args.limits.rows texts are).0

pub returns-clause-loaded : goal.returns-clause-loaded
returns-clause-loaded c = λ texts are.
    rw (c.in_ok-catalogue.ensures c.args.limits.rows texts are).1 refl
