use Rattle.star_query.specs.Views.{tree_view}
use Rattle.star_plan.proofs.Whole.{conjuncts_there, keys_there, measures_there, named}
use Rattle.star_plan.proofs.planner.resolve.Goals as goal

pub resolve_aggregates-requires-clause-there : goal.resolve_aggregates-requires-clause-there
resolve_aggregates-requires-clause-there c =
    let there = measures_there (tree_view c.args.tree.now)
    (named (tree_view c.args.tree.now) c.in_ok-joins.ensures.reported) in
    rw c.deref.ensures.value (there.0, there.1)

pub resolve_where-requires : goal.resolve_where-requires
resolve_where-requires c =
    let there = conjuncts_there (tree_view c.args.tree.now)
    (named (tree_view c.args.tree.now) c.in_ok-joins.ensures.reported) in
    (there.0, there.1)

pub resolve_groups-requires : goal.resolve_groups-requires
resolve_groups-requires c =
    let there = keys_there (tree_view c.args.tree.now)
    (named (tree_view c.args.tree.now) c.in_ok-joins.ensures.reported) in
    rw c.deref-3.ensures.value (there.0, there.1)
