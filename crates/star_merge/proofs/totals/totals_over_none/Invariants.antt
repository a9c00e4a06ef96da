use Rattle.std.proofs.Common.{◌≡◌, [], map, take}
use Rattle.star_schema.specs.Groups.{aggregate}
use Rattle.star_merge.proofs.totals.totals_over_none.Given as goal

abbrev pub invariant-loop-aggregate : goal.invariant-loop-aggregate
invariant-loop-aggregate l =
    l.totals.items ≡ map (λ g. aggregate g []) (take l.aggregate-index l.aggregates)
