-- The columns so far, and those that are to come.
use Rattle.star_schema.specs.declared.group.GroupColumn.TheVariants.{Aggregate, Key}
use Rattle.star_plan.specs.Views.{plan_view}
use Rattle.star_merge_laws.specs.Plain.{columns_at, plain_plan}
use Rattle.star_compile.proofs.Plain.{HasColumns}
use Rattle.star_compile.proofs.declarations.plain_columns.Given as goal

abbrev pub invariant-loop-index : goal.invariant-loop-index
invariant-loop-index l =
    HasColumns Key l.tree.keys.items l.index l.columns.items (columns_at Key 0 l.tree.keys.items)

abbrev pub invariant-loop-index-2 : goal.invariant-loop-index-2
invariant-loop-index-2 l = HasColumns Aggregate l.tree.aggregates.items l.index l.columns.items
    (plain_plan (plan_view l.tree)).items
