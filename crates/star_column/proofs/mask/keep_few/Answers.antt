-- One number more is tested.
use Rattle.std.proofs.Common.{cond, ap, ◌∙◌, arith}
use Rattle.star_column.proofs.{BitLists.byte_cond, Lowest.kept_fits, Lowest.kept_more}
use Rattle.star_column.proofs.mask.keep_few.Goals as goal

pub overflow_add-kept : goal.overflow_add-kept
overflow_add-kept g c = record {
  fits = kept_fits (g.T.RowTest.test c.args.test.now) (g.T.RowTest.numbers c.args.test.now)
      c.args.first c.loop-left.left 0 c.requires.room (omega (arith, c.loop-left-test.true))
      c.loop-left.auto.left-fits.fits c.args.bitmap c.loop-left.kept c.from.result
      c.ranges.bitmap.fits (c.from.ensures ∙ byte_cond c.passes.result
      ∙ ap (λ b. cond b 1 0) c.passes.ensures) c.loop-left.invariant;
}

pub loop-left-preserved : goal.loop-left-preserved
loop-left-preserved g c =
    kept_more (g.T.RowTest.test c.args.test.now) (g.T.RowTest.numbers c.args.test.now)
    c.args.first c.loop-left.left 0 c.requires.room (omega (arith, c.loop-left-test.true))
    c.loop-left.auto.left-fits.fits c.args.bitmap c.loop-left.kept c.from.result
    c.ranges.bitmap.fits (c.from.ensures ∙ byte_cond c.passes.result
    ∙ ap (λ b. cond b 1 0) c.passes.ensures) c.loop-left.invariant
