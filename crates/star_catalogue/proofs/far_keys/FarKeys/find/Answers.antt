use Rattle.std.proofs.Common.{FitsSigned, w64, rules, to_z-of_z, ◌∙◌}
use Rattle.star_catalogue.proofs.far_keys.FarKeys.find.Goals as goal

pub returns-in_err-row : goal.returns-in_err-row
returns-in_err-row c =
    let fits : FitsSigned w64 c.args.key = search rules in
    c.from_residual.ensures ∙ rw (to_z-of_z fits) at c.in_err-row.ensures.index

pub returns : goal.returns
returns c =
    let fits : FitsSigned w64 c.args.key = search rules in
    rw (to_z-of_z fits) at c.in_ok-row.ensures.index
