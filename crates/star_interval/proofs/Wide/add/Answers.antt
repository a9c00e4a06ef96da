-- The sums of the low ends and of the high ends are the least and the greatest over the corners.
use Rattle.std.{proofs.Common.{◌+ℤ◌, FitsSigned, rules, refl, subst}, specs.Int.w128}
use Rattle.star_interval.{specs.Range.corner_range, specs.Interval.wide_range_of, proofs.Ranges.{range_same, least_same}, proofs.Sums.{least_sums, sum_ends}}
use Rattle.star_interval.proofs.Wide.add.Goals as goal

pub returns-clause-least : goal.returns-clause-least
returns-clause-least c =
    let a = c.args.self.now in
    let b = c.args.others.now in
    let ends = sum_ends (wide_range_of a) (wide_range_of b) a.ordered b.ordered in
    least_same _ _ (corner_range ◌+ℤ◌ (wide_range_of a) (wide_range_of b))
    (range_same _ _ (search (rules, ends)) (search (rules, ends)))
    (least_sums (wide_range_of a) (wide_range_of b) a.ordered b.ordered)

pub returns-clause-fits : goal.returns-clause-fits
returns-clause-fits c =
    let a = c.args.self.now in
    let b = c.args.others.now in
    let ends = sum_ends (wide_range_of a) (wide_range_of b) a.ordered b.ordered in
    let low : FitsSigned w128 (a.low +ℤ b.low) = search rules in
    let high : FitsSigned w128 (a.high +ℤ b.high) = search rules in
    (λ yes. (subst (FitsSigned w128) ends.0 low, subst (FitsSigned w128) ends.1 high), λ fits. refl)

pub returns-clause-corners : goal.returns-clause-corners
returns-clause-corners c = search (rules, sum_ends, range_same)

pub returns-in_err-low-clause-fits : goal.returns-in_err-low-clause-fits
returns-in_err-low-clause-fits c = search rules

pub returns-in_err-high-clause-fits : goal.returns-in_err-high-clause-fits
returns-in_err-high-clause-fits c = search rules
