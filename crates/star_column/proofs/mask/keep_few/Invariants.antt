-- What is left to test and what was kept are together what is to be kept.
use Rattle.std.{proofs.Common.{◌≡◌, ◌+◌}, specs.Prelude.bit_and}
use Rattle.star_column.specs.Masks.{mask_of}
use Rattle.star_column.proofs.mask.keep_few.Given as goal

abbrev pub invariant-loop-left : goal.invariant-loop-left
invariant-loop-left g l =
    bit_and l.left (mask_of (g.T.RowTest.test l.fn.test) (g.T.RowTest.numbers l.fn.test) l.fn.first)
    + l.kept
    ≡ bit_and l.fn.bitmap (mask_of (g.T.RowTest.test l.fn.test)
    (g.T.RowTest.numbers l.fn.test) l.fn.first)

abbrev pub decreases-loop-left : goal.decreases-loop-left
decreases-loop-left g l = l.left
