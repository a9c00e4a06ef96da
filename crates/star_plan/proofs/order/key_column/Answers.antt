use Rattle.std.{proofs.Common.{◌∙◌, ap, nat_eq, option_map}, specs.Cmp.Lexicographic.pointwise}
use Rattle.star_schema.specs.declared.group.GroupColumn.TheVariants as group
use Rattle.star_query.specs.Views.{name_view}
use Rattle.star_plan.proofs.Viewed.{place_viewed}
use Rattle.star_plan.proofs.order.key_column.Goals as goal

pub returns-in-None : goal.returns-in-None
returns-in-None c =
    ap (option_map (λ index. group.Key index))
    (c.in-None.ensures.index
    ∙ place_viewed name_view (λ n. pointwise nat_eq n.text c.args.text.now) c.args.groups.now)

pub returns-in-Some : goal.returns-in-Some
returns-in-Some c =
    ap (option_map (λ index. group.Key index))
    (c.in-Some.ensures.index
    ∙ place_viewed name_view (λ n. pointwise nat_eq n.text c.args.text.now) c.args.groups.now)
