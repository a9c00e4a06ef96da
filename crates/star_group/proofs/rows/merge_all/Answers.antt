use Rattle.star_group.proofs.{Common.{◌≡◌, ◌∙◌, ◌+◌, ◌-◌, [], arith, get_or, length, map, subst, sym, key_view, row_found, entries_of, HasSpace, IsNarrow}, MergedRows.{fewer_space, key_here, key_within, merges_more, narrow_at, stays_here}}
use Rattle.star_group.proofs.rows.merge_all.Goals as goal

pub merge_one-requires-clause-narrow : goal.merge_one-requires-clause-narrow
merge_one-requires-clause-narrow c =
    let own = c.args.row_keys.now in
    let i = c.loop-index.index in
    subst (λ w. IsNarrow w (get_or own i [])) (sym c.loop-index.invariant.widths.width)
    (narrow_at c.args.rows.now.listed.width own i [] c.loop-index-test.true c.requires.narrow)

pub merge_one-requires-clause-stays : goal.merge_one-requires-clause-stays
merge_one-requires-clause-stays c =
    let own = c.args.row_keys.now in
    let i = c.loop-index.index in
    let h = c.loop-index-test.true in
    stays_here (map key_view own) i (key_view (get_or own i [])) (key_within own i h)
    (key_here own i h) c.args.aggregates.now c.args.more.now c.requires.distinct
    (row_found (entries_of c.args.rows.now)) (entries_of c.loop-index.rows)
    c.loop-index.invariant.merges c.requires.stay

pub merge_one-requires-clause-space : goal.merge_one-requires-clause-space
merge_one-requires-clause-space c = fewer_space c.loop-index.rows
    (length c.args.row_keys.now - c.loop-index.index) (omega (arith, c.loop-index-test.true))
    c.loop-index.invariant.space

pub loop-index-preserved : goal.loop-index-preserved
loop-index-preserved c =
    let own = c.args.row_keys.now in
    let i = c.loop-index.index in
    let h = c.loop-index-test.true in
    let left : length own - i ≡ (length own - (i + 1)) + 1 = omega (arith, h) in
    record {
      merges = merges_more (map key_view own) i (key_view (get_or own i [])) (key_within own i h)
          (key_here own i h) c.args.aggregates.now c.args.more.now c.requires.distinct
          (row_found (entries_of c.args.rows.now)) (entries_of c.loop-index.rows)
          c.loop-index.invariant.merges (entries_of c.merge_one.new.rows) c.merge_one.ensures.rows;
      space = c.merge_one.ensures.space (length own - (i + 1))
          (subst (HasSpace c.loop-index.rows) left c.loop-index.invariant.space);
      widths = record {
        width = c.merge_one.ensures.widths.width ∙ c.loop-index.invariant.widths.width;
        many = c.merge_one.ensures.widths.many ∙ c.loop-index.invariant.widths.many;
      };
    }
