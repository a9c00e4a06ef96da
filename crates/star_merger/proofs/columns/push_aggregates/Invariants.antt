use Rattle.std.proofs.Common.{◌≡◌, ◌++◌, map, take}
use Rattle.star_plan.specs.Views.{names_view}
use Rattle.star_merger.specs.Columns.{total_column}
use Rattle.star_merger.proofs.columns.push_aggregates.Given as goal

abbrev pub invariant-loop-aggregate : goal.invariant-loop-aggregate
invariant-loop-aggregate l =
    l.columns.items
    ≡ l.fn.columns.items
    ++ map total_column (names_view (take l.aggregate-index l.aggregates))
