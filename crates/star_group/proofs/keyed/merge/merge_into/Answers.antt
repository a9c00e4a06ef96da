use Rattle.star_group.proofs.Common.{◌<◌, ◌≢◌, None, length, arith, below_more, get_or, get_or-set_other, get_or-set_same, ap, ◌∙◌, common_steps, Count, leaves, merged}
use Rattle.star_group.proofs.keyed.merge.merge_into.Goals as goal

pub merged_cell-requires-clause-stays : goal.merged_cell-requires-clause-stays
merged_cell-requires-clause-stays c =
    let index = c.loop-index.index in
    let gs = c.args.aggregates.now in
    ap (λ held. leaves (get_or gs index Count)
    (merged (get_or gs index Count) held (get_or c.args.more.now index None)))
    (c.loop-index.invariant.later index (omega arith))
    ∙ c.requires.stays index c.loop-index-test.true

pub loop-index-preserved : goal.loop-index-preserved
loop-index-preserved c =
    let index = c.loop-index.index in
    let wide = c.loop-index.invariant.wide in
    let lt : index < length c.loop-index.held = omega arith in
    let gs = c.args.aggregates.now in
    record {
      wide = grind (arith, common_steps);
      cells = below_more _ _
          (λ k h. let ne : k ≢ index = omega arith in
          rw get_or-set_other (c.loop-index.invariant.cells k h))
          (rw get_or-set_same (c.merged_cell.ensures
          ∙ ap (λ held. merged (get_or gs index Count) held (get_or c.args.more.now index None))
          (c.loop-index.invariant.later index (omega arith))));
      later = λ k h. let ne : k ≢ index = omega arith in
          rw get_or-set_other (c.loop-index.invariant.later k (omega arith));
    }
