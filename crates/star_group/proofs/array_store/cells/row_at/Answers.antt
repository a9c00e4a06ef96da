use Rattle.star_group.proofs.{Common.{◌≢◌, ◌<◌, ◌+◌, ◌*◌, ◌∙◌, None, Some, ap, arith, below_more, length, pos, subst, sym, get_or-set_same, get_or-set_other, length-set}, CutRows.{index_read, index_within}}
use Rattle.star_group.proofs.array_store.cells.row_at.Goals as goal

pub cell_at-requires : goal.cell_at-requires
cell_at-requires c = subst (λ n. c.loop-number.number * c.args.ids + c.args.id < n)
    (sym c.requires.long) (index_within c.args.ids c.args.aggregate_count c.loop-number.number
    c.args.id c.loop-number-test.true c.requires.id)

pub loop-number-preserved : goal.loop-number-preserved
loop-number-preserved c =
    let a = c.loop-number.number in
    let row = c.loop-number.row in
    let here : a < length row =
    omega (arith, c.loop-number-test.true, c.requires.few, c.loop-number.invariant.wide) in
    record {
      cells = below_more _ _
          (λ k h. let ne : k ≢ a = omega arith in
          get_or-set_other row a k c.cell_at.result None ne ∙ c.loop-number.invariant.cells k h)
          (get_or-set_same row a c.cell_at.result None here ∙ c.cell_at.ensures
          ∙ ap Some (index_read c.args.ids c.args.aggregate_count c.args.cells.now a
          c.args.id (pos 0) c.loop-number-test.true c.requires.id));
      wide = length-set row a c.cell_at.result ∙ c.loop-number.invariant.wide;
    }
