use Rattle.std.proofs.Common.{◌∙◌}
use Rattle.star_plan.{specs.Joins.joins, specs.Private.Found.pair_view, proofs.Viewed.any_viewed}
use Rattle.star_plan.proofs.joins.is_joined.Goals as goal

pub returns : goal.returns
returns c = c.any_joins.ensures
    ∙ any_viewed pair_view (λ p. joins c.args.table p.join) c.args.pairs.now
