use Rattle.std.proofs.Common.{FitsSigned, w64, to_z-of_z, rules, subst}
use Rattle.star_verify.proofs.{Common.IsTally, Common.only, Common.reach_of, Common.read_range, Made.read_as}
use Rattle.star_verify.proofs.operations.read_total.Goals as goal

pub returns : goal.returns
returns c = λ w x shares.
    let fits : FitsSigned w64 c.args.default = search rules in
    let ss = x.so_far c.args.group c.args.aggregate in
    let is = subst (λ t. IsTally t ss) (c.tally_at.ensures c.tally_at.result)
    (shares c.args.group c.requires.group c.args.aggregate c.requires.aggregate
    c.tally_at.result) in
    read_as w c.read.result (reach_of ss) _ _
    (λ i. read_range (c.aggregate_at.ensures i) ss (only (to_z-of_z fits i)))
    (c.read.ensures w ss is)
