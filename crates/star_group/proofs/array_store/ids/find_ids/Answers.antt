use Rattle.star_group.proofs.{Common.{◌≡◌, ◌<◌, ◌-◌, Some, suc, ap, arith, get_or, length, pos, subst, sym, ◌∙◌, drop, put_in, IsOf}, SpanIds.{batch_long, batch_other, batch_outside, batch_id, few_ids, few_values, none_left}}
use Rattle.star_program.specs.declared.group.GroupKey.TheVariants as declared
use Rattle.star_group.specs.Ids as spec
use Rattle.star_group.proofs.array_store.ids.find_ids.Goals as goal

pub loop-index-init : goal.loop-index-init
loop-index-init c = record {
  behind = λ row h.
      none_left c.args.spans.now (put_in c.args.batch.now row).keys
      (batch_long c.args.batch.now c.requires.batch c.args.spans.now c.requires.keys row h)
      ∙ ap Some (sym (c.clear.ensures.blank row (omega (arith, h, c.requires.rows))));
  within = omega arith;
}

pub add_vector-requires-clause-few : goal.add_vector-requires-clause-few
add_vector-requires-clause-few c =
    let i = c.loop-index.index - 1 in
    let here : i < length c.args.spans.now =
    omega (arith, c.loop-index-test.true, c.loop-index.invariant.within) in
    few_values c.args.spans.now i c.index-spans-index.result here c.index-spans-index.is
    c.requires.few

pub add_vector-requires-clause-small : goal.add_vector-requires-clause-small
add_vector-requires-clause-small c = λ row h.
    let i = c.loop-index.index - 1 in
    let spans = c.args.spans.now in
    let back : c.loop-index.index ≡ suc i = omega (arith, c.loop-index-test.true) in
    let here : i < length spans =
    omega (arith, c.loop-index-test.true, c.loop-index.invariant.within) in
    let ks = (put_in c.args.batch.now row).keys in
    few_ids spans i c.index-spans-index.result ks (get_or c.loop-index.at row 0) here
    c.index-spans-index.is c.requires.few (subst (λ n.
    spec.group_id (drop n spans) (drop n ks) ≡ Some (get_or c.loop-index.at row 0)) back
    (c.loop-index.invariant.behind row (omega (arith, h, c.vector-vector.ensures.len))))

pub loop-index-preserved : goal.loop-index-preserved
loop-index-preserved c =
    let i = c.loop-index.index - 1 in
    let b = c.args.batch.now in
    let spans = c.args.spans.now in
    let s = c.index-spans-index.result in
    let back : c.loop-index.index ≡ suc i = omega (arith, c.loop-index-test.true) in
    let here : i < length spans =
    omega (arith, c.loop-index-test.true, c.loop-index.invariant.within) in
    record {
      behind = λ row h.
          batch_id b c.requires.batch spans c.requires.keys row h i here s c.index-spans-index.is
          (subst (λ ks. IsOf s (get_or ks i declared.Number)) c.as_slice-declared.ensures
          (c.is_of.ensures.is c.if-not-is_of.false))
          (get_or c.vector-vector.result.now row (pos 0)) (c.vector-vector.ensures.words row h)
          (get_or c.loop-index.at row 0) (get_or c.add_vector.new.at row 0)
          (subst (λ n. spec.group_id (drop n spans) (drop n (put_in b row).keys)
          ≡ Some (get_or c.loop-index.at row 0)) back (c.loop-index.invariant.behind row h))
          (c.add_vector.ensures.ids c.if-not-add_vector.false row
          (omega (arith, h, c.vector-vector.ensures.len)));
      within = omega (arith, here);
    }

pub returns-then-not-is_of-clause-outside : goal.returns-then-not-is_of-clause-outside
returns-then-not-is_of-clause-outside c = λ e some.
    let i = c.loop-index.index - 1 in
    let s = c.index-spans-index.result in
    let here : i < length c.args.spans.now =
    omega (arith, c.loop-index-test.true, c.loop-index.invariant.within) in (
      0,
      some,
      batch_other c.args.batch.now c.requires.batch c.args.spans.now c.requires.keys 0 some i here s
          c.index-spans-index.is (λ own. let no : ⊥ =
          cc (
            c.if-not-is_of.true,
            c.is_of.ensures.all (subst (λ ks. IsOf s (get_or ks i declared.Number))
                (sym c.as_slice-declared.ensures) own),
          ) in no),
    )

pub returns-then-not-add_vector-clause-outside : goal.returns-then-not-add_vector-clause-outside
returns-then-not-add_vector-clause-outside c = λ e some.
    let i = c.loop-index.index - 1 in
    let b = c.args.batch.now in
    let s = c.index-spans-index.result in
    let here : i < length c.args.spans.now =
    omega (arith, c.loop-index-test.true, c.loop-index.invariant.within) in
    let found = c.add_vector.ensures.outside c.if-not-add_vector.true in
    let h : found.0 < b.rows = omega (arith, found.1, c.vector-vector.ensures.len) in (
      found.0,
      h,
      batch_outside b c.requires.batch c.args.spans.now c.requires.keys found.0 h i here s
          c.index-spans-index.is
          (subst (λ ks. IsOf s (get_or ks i declared.Number)) c.as_slice-declared.ensures
          (c.is_of.ensures.is c.if-not-is_of.false))
          (get_or c.vector-vector.result.now found.0 (pos 0))
          (c.vector-vector.ensures.words found.0 h)
          found.2,
    )
