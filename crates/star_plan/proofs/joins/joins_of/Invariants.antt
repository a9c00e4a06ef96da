use Rattle.std.proofs.Common.{◌≡◌, ◌++◌, drop}
use Rattle.star_plan.specs.{Joins.joins_of, Private.Found.pairs_view}
use Rattle.star_plan.proofs.joins.joins_of.Given as goal

abbrev pub invariant-loop-pair : goal.invariant-loop-pair
invariant-loop-pair l = l.joins.items ++ joins_of (pairs_view (drop l.pair-index l.pairs))
    ≡ joins_of (pairs_view l.pairs)
