use Rattle.std.proofs.Common.{rules}
use Rattle.star_plan.specs.Views.{plan_view}
use Rattle.star_compile.proofs.Plain.{few_keys, plain_there, plain_within}
use Rattle.star_compile.proofs.compiler.compile_plain.Goals as goal

pub plain_columns-requires-clause-keys : goal.plain_columns-requires-clause-keys
plain_columns-requires-clause-keys c =
    (few_keys c.tree-tree.result.now
    (c.planned_queries_are_sound.ensures.limits (plan_view c.tree-tree.result.now)
    c.tree-tree.ensures.planned)).0

pub plain_columns-requires-clause-aggregates : goal.plain_columns-requires-clause-aggregates
plain_columns-requires-clause-aggregates c =
    (few_keys c.tree-tree.result.now
    (c.planned_queries_are_sound.ensures.limits (plan_view c.tree-tree.result.now)
    c.tree-tree.ensures.planned)).1

pub program-requires-clause-limits : goal.program-requires-clause-limits
program-requires-clause-limits c =
    c.planned_queries_are_sound.ensures.limits (plan_view c.tree-tree.result.now)
    c.tree-tree.ensures.planned

pub program-requires-clause-spelled : goal.program-requires-clause-spelled
program-requires-clause-spelled c =
    c.planned_queries_are_sound.ensures.spelled (plan_view c.tree-tree.result.now)
    c.tree-tree.ensures.planned

pub program-requires-clause-there : goal.program-requires-clause-there
program-requires-clause-there c =
    let there = plain_there c.tree-tree.result.now
    (c.planned_queries_are_sound.ensures.sound (plan_view c.tree-tree.result.now)
    c.tree-tree.ensures.planned) in
    search (rules, there)

pub program-requires-clause-few : goal.program-requires-clause-few
program-requires-clause-few c =
    let few = plain_within (plan_view c.tree-tree.result.now)
    (c.planned_queries_are_sound.ensures.limits (plan_view c.tree-tree.result.now)
    c.tree-tree.ensures.planned) in
    search (rules, few)
