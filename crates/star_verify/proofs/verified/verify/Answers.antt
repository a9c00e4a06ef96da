use Rattle.std.proofs.Common.{◌≡◌, arith, subst, sym}
use Rattle.star_verify.proofs.Common.{HasKeyShares, at_end, at_first, most_report_rows, world_of}
use Rattle.star_verify.proofs.verified.verify.Goals as goal

pub invariant_of-result : goal.invariant_of-result
invariant_of-result c =
    let w = world_of c.args.catalogue.now in
    let checked = c.in-Ok.ensures w c.of-facts.ensures in
    let accepted = (c.admissible_programs_within_the_limit_are_not_refused.ensures w
    c.args.limits.visits c.args.program).0 checked.0 in
    let program = c.args.program in
    let same = c.parts.ensures.same in
    let kept = subst (λ p. HasKeyShares p c.deref.result.now (at_end w p at_first p.body))
    (sym same)
    (subst (λ tallies. HasKeyShares program tallies (at_end w program at_first program.body))
    (sym c.deref.ensures.value) checked.3) in (
      record {
        admissible = accepted.0;
        cheap = omega (arith, accepted.1, c.args.limits.visits_in_range);
      },
      checked.1,
      subst (λ p. c.most_rows-most_rows.result ≡ most_report_rows w p) same
          (c.most_rows-most_rows.ensures kept),
    )
