use Rattle.std.proofs.Common.{map, refl}
use Rattle.star_query.specs.Views.{aggregate_view, name_view}
use Rattle.star_plan.proofs.Aggregates.{alias_reported}
use Rattle.star_plan.proofs.select.check_alias.Goals as goal

pub returns-then-is_taken : goal.returns-then-is_taken
returns-then-is_taken c =
    rw c.if-is_taken.true at
    (alias_reported (map name_view c.args.groups.now) c.args.aggregates.now c.args.index
    (aggregate_view c.args.aggregate.now) _ _ _ _
    c.requires.there c.requires.named c.as_slice-name.ensures.value c.is_taken.ensures
    c.name_offset-at.ensures)

pub returns-else-is_taken : goal.returns-else-is_taken
returns-else-is_taken c =
    rw c.if-is_taken.false at
    (alias_reported (map name_view c.args.groups.now) c.args.aggregates.now c.args.index
    (aggregate_view c.args.aggregate.now) _ _ _ _
    c.requires.there c.requires.named c.as_slice-name.ensures.value c.is_taken.ensures refl)
