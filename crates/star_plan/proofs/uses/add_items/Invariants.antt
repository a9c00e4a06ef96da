use Rattle.std.proofs.Common.{◌≡◌, ◌++◌, drop, map}
use Rattle.star_query.specs.Views.{item_view}
use Rattle.star_plan.specs.Private.{Stages.items_uses, Found.uses_view}
use Rattle.star_plan.proofs.uses.add_items.Given as goal

abbrev pub invariant-loop-item : goal.invariant-loop-item
invariant-loop-item l = uses_view l.uses.items
    ++ items_uses (map item_view (drop l.item-index l.items))
    ≡ uses_view l.initial.uses.items ++ items_uses (map item_view l.items)
