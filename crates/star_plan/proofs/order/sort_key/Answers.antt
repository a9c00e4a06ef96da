use Rattle.std.proofs.Common.{map}
use Rattle.star_query.specs.Views.{name_view}
use Rattle.star_plan.{specs.Views.names_view, proofs.Sought.{found_reported, missing_reported, order_sought}}
use Rattle.star_plan.proofs.order.sort_key.Goals as goal

pub returns-in-None-clause-reported : goal.returns-in-None-clause-reported
returns-in-None-clause-reported c =
    missing_reported _ _ _ (order_sought (map name_view c.args.groups.now)
    (names_view c.args.aggregates.now) c.args.key.now.name.text.items)
    (rw c.deref.ensures.value at c.in-None.ensures)

pub returns-in-Some-clause-reported : goal.returns-in-Some-clause-reported
returns-in-Some-clause-reported c =
    found_reported _ _ _ _ (order_sought (map name_view c.args.groups.now)
    (names_view c.args.aggregates.now) c.args.key.now.name.text.items)
    (rw c.deref.ensures.value at c.in-Some.ensures)
