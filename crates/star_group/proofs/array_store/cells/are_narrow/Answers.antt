use Rattle.star_group.proofs.{ArrayCells.each_narrow, Common.arith}
use Rattle.star_group.proofs.array_store.cells.are_narrow.Goals as goal

pub returns : goal.returns
returns c = each_narrow c.args.words.now c.loop-at.at (omega (arith, c.loop-at-test.false))
    c.loop-at.invariant
