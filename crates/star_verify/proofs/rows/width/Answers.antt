use Rattle.std.proofs.Common.{◌+◌, FitsSigned, ap, rules, sym, to_z-of_z, w64, ◌∙◌}
use Rattle.star_verify.proofs.{Common.option_map, Common.range_of, Common.range_width, RowLemmas.width_is}
use Rattle.star_verify.proofs.rows.width.Goals as goal

pub returns-in-Some-clause-width : goal.returns-in-Some-clause-width
returns-in-Some-clause-width c =
    let low : FitsSigned w64 c.in-Some.range.low = search rules in
    let high : FitsSigned w64 c.in-Some.range.high = search rules in
    let apart = rw (to_z-of_z low, to_z-of_z high) at c.abs_diff.ensures in
    ap (λ n. n + 1) (c.from.ensures ∙ apart)
    ∙ sym (width_is c.in-Some.range.low c.in-Some.range.high c.in-Some.range.ordered)
    ∙ ap (λ o. range_width (option_map range_of o)) (sym c.in-Some.is)
