use Rattle.std.{proofs.Common.{◌∙◌, nat_eq}, specs.Cmp.Lexicographic.pointwise}
use Rattle.star_plan.{specs.Naming.has_text, proofs.Viewed.any_viewed}
use Rattle.star_plan.proofs.select.has_aggregate.Goals as goal

pub returns : goal.returns
unfolding has_text
returns c = c.any_named.ensures
    ∙ any_viewed (λ a. a.name.items) (λ t. pointwise nat_eq t c.args.name.now) c.args.aggregates.now
