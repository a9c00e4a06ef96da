use Rattle.std.proofs.Common.{◌≡◌, None, rules, subst}
use Rattle.star_verify.proofs.Common.{HasKeyShares, at_end, at_first, first_reason, none_open}
use Rattle.star_verify.proofs.check.check_instructions.Goals as goal

pub returns-clause-first : goal.returns-clause-first
returns-clause-first c = λ w facts.
    let parts = c.args.parts.now in
    let checked = c.in_ok-check_steps.ensures.checked w at_first none_open facts (search rules)
    (search rules) (search rules) in
    subst (λ code. (first_reason w parts none_open at_first 1 code ≡ None)
    × HasKeyShares parts c.check_steps.new.state.keys.items (at_end w parts at_first code))
    c.as_slice.ensures (checked.0, checked.1.keys)
