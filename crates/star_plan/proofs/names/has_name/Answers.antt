use Rattle.std.{proofs.Common.{◌∙◌, nat_eq}, specs.Cmp.Lexicographic.pointwise}
use Rattle.star_query.specs.Views.{name_view}
use Rattle.star_plan.{specs.Names.has_name, proofs.Viewed.any_viewed}
use Rattle.star_plan.proofs.names.has_name.Goals as goal

pub returns : goal.returns
unfolding has_name
returns c =
    c.any_reads.ensures
    ∙ any_viewed name_view (λ n. pointwise nat_eq n.text c.args.text.now) c.args.names.now
