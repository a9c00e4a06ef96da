use Rattle.star_group.proofs.{Common.{◌∷◌, [], ◌≡◌, ◌+◌, ◌-◌, cond, map, arith, sym, ap, ◌∙◌, filter, padded, key_view, keys_from, is_row_key}, AllRows.{base_keys, cube_keys}, BaseKeyLemmas.doubled, GroupKeys.own_grouping, Rolling.row_keys_more}
use Rattle.star_group.proofs.eager.row_keys.vary.Goals as goal

pub loop-index-init : goal.loop-index-init
loop-index-init c = record {
  below = omega arith;
  varied =
      λ keys fits e. e ∙ sym
      (ap (filter (is_row_key c.args.shape c.args.key_count)) (base_keys c.args.key_count keys)
      ∙ ap (λ b. cond b (padded 6 keys ∷ []) [])
      (own_grouping c.args.shape keys c.args.key_count fits c.requires));
}

pub loop-index-preserved : goal.loop-index-preserved
loop-index-preserved c =
    let s = c.args.shape in
    let count = c.args.key_count in
    let before = c.loop-index.row_keys.items in
    let index = c.loop-index.index in
    let back : index - 1 + 1 ≡ index = omega (arith, c.loop-index-test.true) in
    record {
      below = omega (arith, c.loop-index.invariant.below);
      varied = λ keys fits e.
          row_keys_more s (index - 1) count keys
          (omega (arith, c.loop-index-test.true, c.loop-index.invariant.below)) c.requires fits
          (map key_view before) _
          (c.loop-index.invariant.varied keys fits e
          ∙ ap (λ n. filter (is_row_key s count) (keys_from n count keys)) (sym back))
          (doubled (is_row_key s count) (index - 1) before _ c.in_ok-double.ensures);
    }

pub returns : goal.returns
returns c = λ keys fits e.
    let none : c.loop-index.index ≡ 0 = omega (arith, c.loop-index-test.false) in
    c.loop-index.invariant.varied keys fits e
    ∙ ap (filter (is_row_key c.args.shape c.args.key_count))
    (ap (λ n. keys_from n c.args.key_count keys) none ∙ cube_keys c.args.key_count keys)
