use Rattle.std.proofs.Common.{◌≡◌, drop, map}
use Rattle.star_query.specs.Views.{name_view}
use Rattle.star_plan.{specs.Names.column_at, specs.Resolved.option_all, proofs.Options.with_rest}
use Rattle.star_plan.proofs.resolve.resolve_groups.Given as goal

abbrev pub invariant-loop-name : goal.invariant-loop-name
invariant-loop-name l = with_rest l.keys.items
    (option_all column_at (map name_view (drop l.name-index l.groups)))
    ≡ option_all column_at (map name_view l.groups)
