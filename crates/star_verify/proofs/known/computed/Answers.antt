use Rattle.std.proofs.Common.{◌≡◌, Some, false, true, ap, subst, sym, ◌∙◌, refl}
use Rattle.star_verify.proofs.{Common.{Interval, IsOk, Overflow, Result, Wide, bounds_of, reach_view, reached}, Overflows.{fitting, leaving}}
use Rattle.star_verify.proofs.known.computed.Goals as goal

pub returns-in-Ok-clause-overflow : goal.returns-in-Ok-clause-overflow
returns-in-Ok-clause-overflow c = λ w.
    fitting w (bounds_of c.args.range) (reach_view c.args.reach)
    (c.requires.0 (subst (λ (x : Result Interval Wide). IsOk x) (sym c.in-Ok.is) refl))

pub returns-in-Err-clause-overflow : goal.returns-in-Err-clause-overflow
returns-in-Err-clause-overflow c = λ w.
    leaving w (bounds_of c.args.range) (reach_view c.args.reach)
    (λ fits. let never : false ≡ true =
    subst (λ (x : Result Interval Wide). IsOk x) c.in-Err.is (c.requires.1 fits) in cc)
    ∙ ap (λ (x : Result Interval Wide).
    Some (Overflow (bounds_of x).low (bounds_of x).high (reached w (reach_view c.args.reach))))
    c.in-Err.is
