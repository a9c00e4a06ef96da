use Rattle.std.proofs.{Common.subst, lemmas.Grind.merely}
use Rattle.star_query.specs.Views.{tree_view}
use Rattle.star_plan.{specs.WellNamed.IsWellNamed, proofs.Conditions.well_named}
use Rattle.star_plan.proofs.planner.plan.Goals as goal

pub invariant_of-result : goal.invariant_of-result
invariant_of-result c =
    merely
    (record {
      tree = tree_view c.tree-query.result.now;
      meant = c.tree-query.ensures.meant;
      named = well_named (tree_view c.tree-query.result.now) c.in_ok-tree.ensures.reported;
      resolved = c.in_ok-tree.ensures.resolved;
    })

pub returns-clause-named : goal.returns-clause-named
returns-clause-named c =
    subst (λ t. IsWellNamed (tree_view t)) c.tree-query.ensures.lent
    (well_named (tree_view c.tree-query.result.now) c.in_ok-tree.ensures.reported)
