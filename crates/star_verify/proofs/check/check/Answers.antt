use Rattle.std.proofs.Common.{Some, None, arith, inr, subst, sym, ◌∙◌}
use Rattle.star_verify.proofs.{Common.HasKeyShares, Common.at_end, Common.at_first, Common.err_from_is_err_and, Refusing.first_told, Refusing.same_quote, Refusing.too_costly, Refusing.within}
use Rattle.star_verify.proofs.check.check.Goals as goal

pub returns-then-visits-from : goal.returns-then-visits-from
returns-then-visits-from c = λ w facts.
    inr (too_costly w c.args.limits.visits c.args.program.now c.args.facts.now facts
    c.quote-visits.result c.quote-visits.ensures
    (omega (arith, c.from.ensures, c.if-visits-from.true)))

pub returns-in_err-keys : goal.returns-in_err-keys
returns-in_err-keys c = λ w facts.
    let p = err_from_is_err_and c.from_residual.result c.from_residual.ensures.1 in
    rw (p.1, p.2)
    (first_told w c.args.limits.visits c.args.program.now c.args.facts.now facts
    c.quote-visits.result c.quote-visits.ensures _ c.parts-parts.ensures.same
    (omega (arith, c.from.ensures, c.if-visits-from.false))
    c.in_err-keys.field-0.0 (c.in_err-keys.ensures.first w facts))

pub returns-in-None : goal.returns-in-None
returns-in-None c = λ w facts. (
  within w c.args.limits.visits c.args.program.now c.args.facts.now facts
      c.quote-visits.result c.quote-visits.ensures _ c.parts-parts.ensures.same
      (omega (arith, c.from.ensures, c.if-visits-from.false)) None None
      (c.in_ok-keys.ensures.first w facts).0 (sym c.misnamed_line.ensures ∙ c.in-None.is),
  same_quote w c.args.facts.now facts c.args.program.now c.quote-visits.result
      c.quote-visits.ensures,
  c.in_ok-keys.ensures.len,
  subst (λ parts. HasKeyShares parts c.in_ok-keys.keys.items (at_end w parts at_first parts.body))
      c.parts-parts.ensures.same (c.in_ok-keys.ensures.first w facts).1,
)

pub returns-in-Some : goal.returns-in-Some
returns-in-Some c = λ w facts.
    inr (within w c.args.limits.visits c.args.program.now c.args.facts.now facts
    c.quote-visits.result c.quote-visits.ensures _ c.parts-parts.ensures.same
    (omega (arith, c.from.ensures, c.if-visits-from.false)) None (Some c.in-Some.index)
    (c.in_ok-keys.ensures.first w facts).0 (sym c.misnamed_line.ensures ∙ c.in-Some.is))
