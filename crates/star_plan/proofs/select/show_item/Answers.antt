use Rattle.std.proofs.Common.{map}
use Rattle.star_query.specs.Views.{name_view}
use Rattle.star_plan.proofs.Sought.{found_reported, key_sought, missing_reported}
use Rattle.star_plan.proofs.select.show_item.Goals as goal

pub returns-in-Some-clause-reported : goal.returns-in-Some-clause-reported
returns-in-Some-clause-reported c =
    rw c.in-Column.is
    (found_reported _ _ _ _
    (key_sought (map name_view c.args.groups.now) c.in-Column.name.text.items)
    (rw c.deref.ensures.value at c.in-Some.ensures))

pub returns-in-None-clause-reported : goal.returns-in-None-clause-reported
returns-in-None-clause-reported c =
    rw c.in-Column.is
    (missing_reported _ _ _
    (key_sought (map name_view c.args.groups.now) c.in-Column.name.text.items)
    (rw c.deref.ensures.value at c.in-None.ensures))
