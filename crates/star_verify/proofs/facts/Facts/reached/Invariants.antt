-- The columns so far, and then those that are left.
use Rattle.std.proofs.Common.{◌≡◌, ◌++◌, drop, map}
use Rattle.star_verify.proofs.Common.{AreFacts, World, filter, reach_view, with_bounds}
use Rattle.star_verify.proofs.facts.Facts.reached.Given as goal

abbrev pub invariant-loop-column : goal.invariant-loop-column
invariant-loop-column l = (w : World) → AreFacts w l.self → l.columns.items ++ map (with_bounds w)
    (filter (reach_view l.reach) (drop l.column-index l.column-items))
    ≡ map (with_bounds w) (filter (reach_view l.reach) l.column-items)
