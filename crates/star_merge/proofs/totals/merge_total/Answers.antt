use Rattle.std.{proofs.Common.{◌∙◌, ap, arith, rules, sym, true≢false}, proofs.lemmas.Int.to_z-of_z, specs.Int.w128, specs.Prelude.FitsSigned}
use Rattle.star_merge.{specs.Merged.distance, proofs.Small.both_fit}
use Rattle.star_merge.proofs.totals.merge_total.Goals as goal

pub returns-in-None-clause-small : goal.returns-in-None-clause-small
returns-in-None-clause-small c = λ small.
    let numbers = c.in-Some-Some in
    let one : FitsSigned w128 numbers.total = search rules in
    let other : FitsSigned w128 numbers.more = search rules in
    let leaves = simp to_z-of_z at c.in-None.ensures in
    absurd (true≢false
    (sym (both_fit c.args.aggregate numbers.total numbers.more
    (omega (arith, small, ap distance numbers.is-0, ap distance numbers.is-1)))
    ∙ leaves))
