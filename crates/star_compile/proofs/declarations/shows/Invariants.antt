-- The shows so far are those of the items so far.
use Rattle.std.proofs.Common.{◌≡◌, map, take}
use Rattle.star_plan.specs.Views.{plan_view}
use Rattle.star_compile_laws.specs.Compiled.{plan_show}
use Rattle.star_compile.proofs.declarations.shows.Given as goal

abbrev pub invariant-loop-column : goal.invariant-loop-column
invariant-loop-column l =
    l.shows.items ≡ map (plan_show (plan_view l.tree)) (take l.column-index l.items)
