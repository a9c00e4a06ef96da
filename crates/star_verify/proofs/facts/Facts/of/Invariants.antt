-- The bounds so far.
use Rattle.std.proofs.Common.{◌≡◌, length}
use Rattle.star_verify.proofs.Common.{AreBoundsBefore, world_of}
use Rattle.star_verify.proofs.facts.Facts.of.Given as goal

abbrev pub invariant-loop-column : goal.invariant-loop-column
invariant-loop-column l =
    (length l.bounds ≡ 58) × AreBoundsBefore (world_of l.catalogue) l.bounds l.column-index
