use Rattle.std.proofs.Common.{rules}
use Rattle.star_plan.specs.Views.{plan_view}
use Rattle.star_compile.proofs.Plain.{items_there}
use Rattle.star_compile.proofs.compiler.compile.Goals as goal

pub program-requires-clause-limits : goal.program-requires-clause-limits
program-requires-clause-limits c =
    c.planned_queries_are_sound.ensures.limits (plan_view c.tree-tree.result.now)
    c.tree-tree.ensures.planned

pub program-requires-clause-spelled : goal.program-requires-clause-spelled
program-requires-clause-spelled c =
    c.planned_queries_are_sound.ensures.spelled (plan_view c.tree-tree.result.now)
    c.tree-tree.ensures.planned

pub program-requires-clause-there : goal.program-requires-clause-there
program-requires-clause-there c =
    let there = items_there c.tree-tree.result.now
    (c.planned_queries_are_sound.ensures.sound (plan_view c.tree-tree.result.now)
    c.tree-tree.ensures.planned) in
    search (rules, there)

pub program-requires-clause-few : goal.program-requires-clause-few
program-requires-clause-few c =
    let few =
    c.planned_queries_are_sound.ensures.limits (plan_view c.tree-tree.result.now)
    c.tree-tree.ensures.planned in
    search (rules, few)
