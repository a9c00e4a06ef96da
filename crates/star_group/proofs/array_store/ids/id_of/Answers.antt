use Rattle.star_group.proofs.{Common.{◌≡◌, ◌<◌, ◌+◌, ◌-◌, ◌^◌, MatchOption, suc, ap, arith, drop, get_or, length, pos, subst, sym, ◌∙◌, Number}, SpanIds.{if_within, more, none_left, small}}
use Rattle.star_group.specs.Ids as spec
use Rattle.star_group.proofs.array_store.ids.id_of.Goals as goal

pub above-id-requires : goal.above-id-requires
above-id-requires c =
    subst (λ r. MatchOption r (Unit {0}) (λ p. p < 2 ^ 28)) (sym c.loop-index.invariant.behind)
    (small c.args.spans.now c.args.keys.now c.loop-index.index c.loop-index.index (2 ^ 28)
    c.requires.few)

pub loop-index-init : goal.loop-index-init
loop-index-init c = record {
  behind = sym (none_left c.args.spans.now c.args.keys.now c.requires.same);
  within = omega arith;
}

pub loop-index-preserved : goal.loop-index-preserved
loop-index-preserved c =
    let i = c.loop-index.index - 1 in
    let back : suc i ≡ c.loop-index.index = omega (arith, c.loop-index-test.true) in
    let here : i < length c.args.spans.now =
    omega (arith, c.loop-index-test.true, c.loop-index.invariant.within) in
    let s = c.index-spans-index.result in
    let behind = c.loop-index.invariant.behind
    ∙ ap (λ n. spec.group_id (drop n c.args.spans.now) (drop n c.args.keys.now)) (sym back) in
    record {
      behind = c.above-id.ensures
          ∙ (λ j. spec.above (spec.offset_of (c.index-spans-index.is j)
          (get_or c.args.keys.now i (Number (pos 0)))) ((c.index-spans-index.is j).last + 1)
          (behind j))
          ∙ sym (more c.args.spans.now c.args.keys.now i s (Number (pos 0)) here
          (omega (arith, here, c.requires.same)));
      within = omega (arith, here);
    }

pub returns-clause-within : goal.returns-clause-within
returns-clause-within c =
    let spans = c.args.spans.now in
    let none : c.loop-index.index ≡ 0 = omega (arith, c.loop-index-test.false) in
    if_within spans c.args.keys.now c.loop-index.id
    (c.loop-index.invariant.behind
    ∙ ap (λ n. spec.group_id (drop n spans) (drop n c.args.keys.now)) none)
