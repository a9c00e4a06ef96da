use Rattle.star_group.proofs.{Common.{◌≡◌, ◌*◌, [], ap, arith, false, length, sym, ◌∙◌, length-replicate}, ArrayPuts.content_none, Bases.no_room}
use Rattle.star_group.specs.Deferred as deferred
use Rattle.star_group.proofs.array_store.store.ArrayStoreGroupStore.with_ranges.Goals as goal

pub invariant_of-result : goal.invariant_of-result
invariant_of-result c =
    let rest = c.in_ok-rest.rest in
    let n = c.in_ok-spans.ids in
    let blank = c.in_ok-seen.ensures.items_if_clones_equal (λ y e. e) in
    let many : length c.in_ok-seen.seen.items ≡ n = ap length blank ∙ length-replicate n false in
    let group = c.in_ok-rest.ensures.group in
    let same = c.as_slice-2.ensures ∙ sym (ap (λ g. g.aggregates) group) in
    record {
      keys = c.in_ok-spans.ensures.keys ∙ ap length c.as_slice.ensures
          ∙ sym (ap (λ g. g.count) group);
      few = omega (arith, c.in_ok-spans.ensures.few, c.in_ok-spans.ensures.ids);
      marks = many ∙ c.in_ok-spans.ensures.ids;
      long = c.in_ok-cells.ensures.len ∙ (λ i. length (same i) * sym many i);
      room = ∣ (
        [],
        content_none rest c.in_ok-spans.spans.items n same blank c.in_ok-cells.ensures.cells
            c.in_ok-rest.ensures.empty,
        no_room (deferred.group_view rest),
      ) ∣₁;
    }

pub returns-clause-empty : goal.returns-clause-empty
returns-clause-empty c =
    content_none c.in_ok-rest.rest c.in_ok-spans.spans.items c.in_ok-spans.ids
    (c.as_slice-2.ensures ∙ sym (ap (λ g. g.aggregates) c.in_ok-rest.ensures.group))
    (c.in_ok-seen.ensures.items_if_clones_equal (λ y e. e)) c.in_ok-cells.ensures.cells
    c.in_ok-rest.ensures.empty
