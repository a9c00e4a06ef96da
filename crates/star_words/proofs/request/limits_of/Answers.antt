use Rattle.std.{proofs.Common.{arith, refl, sym, ap, Some, ◌∙◌, ◌≤◌}, specs.Str.Parse.{digits_value, without_leading_plus}}
use Rattle.star_words.proofs.Arguments.{limited, unlimited}
use Rattle.star_words.proofs.request.limits_of.Goals as goal

pub returns-in-Ok : goal.returns-in-Ok
returns-in-Ok c =
    let read = c.in-Ok.ensures.value.0 in
    let small : digits_value 10 (without_leading_plus c.args.limit.now) ≤ 1000000000000000 =
    omega (arith, read.1) in (
      ap Some read.1 ∙ sym (limited c.args.limit.now read.0.0 small),
      refl,
    )

pub returns-in_default : goal.returns-in_default
returns-in_default c =
    let read = c.in-Ok.ensures.value.0 in (
      sym (unlimited c.args.limit.now (λ _ small. absurd (omega (arith, read.1)))),
      tt,
    )

pub returns-in_default-2 : goal.returns-in_default-2
returns-in_default-2 c =
    let read = c.in_default.ensures.value.0 in (
      sym (unlimited c.args.limit.now (λ numeral small. read (numeral, omega arith))),
      tt,
    )
