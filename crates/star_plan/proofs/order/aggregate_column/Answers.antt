use Rattle.std.{proofs.Common.{◌∙◌, ap, nat_eq, option_map}, specs.Cmp.Lexicographic.pointwise}
use Rattle.star_schema.specs.declared.group.GroupColumn.TheVariants as group
use Rattle.star_plan.proofs.Viewed.{place_viewed}
use Rattle.star_plan.proofs.order.aggregate_column.Goals as goal

pub returns-in-None : goal.returns-in-None
returns-in-None c = ap (option_map (λ index. group.Aggregate index))
    (c.in-None.ensures.index
    ∙ place_viewed (λ a. a.name.items) (λ t. pointwise nat_eq t c.args.text.now)
    c.args.aggregates.now)

pub returns-in-Some : goal.returns-in-Some
returns-in-Some c = ap (option_map (λ index. group.Aggregate index))
    (c.in-Some.ensures.index
    ∙ place_viewed (λ a. a.name.items) (λ t. pointwise nat_eq t c.args.text.now)
    c.args.aggregates.now)
