use Rattle.std.proofs.Common.{◌≡◌, ◌++◌, drop, map}
use Rattle.star_query.specs.Views.{name_view}
use Rattle.star_plan.specs.Private.{Stages.groups_uses, Found.uses_view}
use Rattle.star_plan.proofs.uses.add_groups.Given as goal

abbrev pub invariant-loop-name : goal.invariant-loop-name
invariant-loop-name l = uses_view l.uses.items
    ++ groups_uses (map name_view (drop l.name-index l.names))
    ≡ uses_view l.initial.uses.items ++ groups_uses (map name_view l.names)
