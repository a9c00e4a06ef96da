use Rattle.std.proofs.Common.{◌≡◌, FitsSigned, w64, rules, None, Some, ap, subst, sym, ◌∙◌}
use Rattle.star_verify.proofs.{Common.FitsI64, Common.KnownNumber, Common.loaded_known, Common.overflow_of, Overflows.fitting, Texts.not_text}
use Rattle.star_verify.proofs.facts.Facts.loaded.Goals as goal

pub returns : goal.returns
returns c = λ w facts.
    let number = not_text c.args.column c.is_text.result c.is_text.ensures c.if-is_text.false in
    let bounds = facts.bounds c.args.column c.bounds.result c.bounds.ensures in
    let low : FitsSigned w64 c.bounds.result.low = search rules in
    let high : FitsSigned w64 c.bounds.result.high = search rules in (
      (λ i. KnownNumber (bounds i) (c.only.ensures i) (Some c.args.column))
          ∙ sym (ap (λ b. loaded_known w c.args.column b) number),
      subst (λ b. overflow_of w (loaded_known w c.args.column b) ≡ None) (sym number)
          (fitting w _ _ (subst FitsI64 bounds (low, high))),
    )
