use Rattle.star_group.proofs.{Common.{◌≡◌, ◌<◌, ◌++◌, ◌∷◌, [], List, Some, add-one, ap, arith, drop, length, subst, suc, sym, take, ◌∙◌, take-suc-set, common_steps, KeyValue}, SpanIds.{HasFirst, all_kept, behind_first, next_id}}
use Rattle.star_group.specs.Ids as spec
use Rattle.star_group.proofs.array_store.ids.keys_at.Goals as goal

pub loop-index-preserved : goal.loop-index-preserved
loop-index-preserved c =
    let i = c.loop-index.index in
    let here = c.loop-index-test.true in
    let s = c.index-spans-index.result in
    let first : (keys : List KeyValue) → spec.group_id c.args.spans.now keys ≡ Some c.args.id
    → HasFirst s (drop (suc i) c.args.spans.now) c.loop-index.left (drop i keys) =
    (λ keys is. next_id c.args.spans.now i s keys c.loop-index.left here c.index-spans-index.is
    (c.loop-index.invariant.left keys is)) in
    record {
      left = λ keys is.
          let f = first keys is in
          rw (add-one i) (ap (spec.group_id (drop (suc i) c.args.spans.now))
          (behind_first keys i f.key f.keys f.are).0 ∙ f.behind);
      same = λ keys is.
          let f = first keys is in
          let lt : i < length c.loop-index.keys =
          omega (arith, here, c.requires.few, c.loop-index.invariant.wide) in
          rw (add-one i)
          (take-suc-set c.loop-index.keys i c.key_at.result lt
          ∙ (λ j. c.loop-index.invariant.same keys is j
          ++ (c.key_at.ensures f.key f.offset j ∷ []))
          ∙ sym (behind_first keys i f.key f.keys f.are).1);
      wide = grind (arith, common_steps);
    }

pub returns : goal.returns
returns c = λ keys is.
    let spans = c.args.spans.now in
    let all : c.loop-index.index ≡ length spans =
    omega (arith, c.loop-index-test.false, c.loop-index.auto.index-end) in
    subst (λ n. take n c.loop-index.keys ≡ take n keys) all (c.loop-index.invariant.same keys is)
    ∙ all_kept spans keys c.loop-index.left
    (subst (λ n. spec.group_id (drop n spans) (drop n keys) ≡ Some c.loop-index.left) all
    (c.loop-index.invariant.left keys is))
