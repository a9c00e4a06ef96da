use Rattle.std.proofs.Common.{◌≤◌}
use Rattle.star_engine.specs.Private.PieceSteps.{HasFed}
use Rattle.star_engine.proofs.parts.feed_all.Given as goal

abbrev pub invariant-loop : goal.invariant-loop
invariant-loop g l =
    (l.taken ≤ l.limit)
    × HasFed g.R.Read.remaining l.initial.input l.input l.initial.reader l.reader l.counter l.taken
