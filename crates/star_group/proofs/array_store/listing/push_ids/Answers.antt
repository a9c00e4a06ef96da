use Rattle.star_group.proofs.{Common.{◌≡◌, ◌+◌, ◌∙◌, None, add-one, arith, length, rules, subst, suc, sym, take, get_or-take, id_count, AreOnce, listed_entries}, ArrayListing.{IsListedTo, list_end, list_more, list_skip, list_start}, array_store.listing.push_ids.Goals.{then-seen-id+in_ok-push, else-seen-id}}
use Rattle.star_group.proofs.array_store.listing.push_ids.Goals as goal

pub push-requires-clause-narrow : goal.push-requires-clause-narrow
push-requires-clause-narrow c = c.key_at-key.ensures.narrow c.loop-id.rows.width
    (omega (arith, c.requires.keys, c.loop-id.invariant.width))

pub loop-id-init : goal.loop-id-init
loop-id-init c = record {
  listed = λ once. list_start c.args.aggregates.now c.args.spans.now c.args.seen.now
      c.args.cells.now (listed_entries c.args.rows.now) once;
  width = search rules;
  aggregate_count = search rules;
}

pub loop-id-preserved : goal.loop-id-preserved
loop-id-preserved c =
    let gs = c.args.aggregates.now in
    let spans = c.args.spans.now in
    let seen = c.args.seen.now in
    let cells = c.args.cells.now in
    let n = c.loop-id.id in
    let es = listed_entries c.args.rows.now in
    let now = c.loop-id.invariant in
    elim c.if-seen-id.branch [
      | then-seen-id+in_ok-push w ↦ subst (λ rows. record {
        listed : AreOnce es → IsListedTo gs spans seen cells es (n + 1) (listed_entries rows);
        width : rows.width ≡ c.args.rows.now.width;
        aggregate_count : rows.aggregate_count ≡ c.args.rows.now.aggregate_count;
      }) (sym w.rows-is) (record {
        listed = λ once.
            let row = take (length gs) w.row_at-row.result in
            subst (λ m. IsListedTo gs spans seen cells es m (listed_entries w.push.new.self))
            (sym (add-one n))
            (subst (IsListedTo gs spans seen cells es (suc n)) (sym w.in_ok-push.ensures.rows)
            (list_more gs spans seen cells es c.requires.long n c.loop-id-test.true
            (listed_entries c.loop-id.rows) (now.listed once)
            (omega (arith, c.requires.keys, c.args.rows.now.few)) w.key_at-key.result
            w.key_at-key.ensures.key row w.if-seen-id.true
            (λ a h. get_or-take (length gs) w.row_at-row.result a None h
            ∙ w.row_at-row.ensures a h)));
        width = w.push.ensures.width ∙ now.width;
        aggregate_count = w.push.ensures.aggregate_count ∙ now.aggregate_count;
      })
      | else-seen-id w ↦ subst (λ rows. record {
        listed : AreOnce es → IsListedTo gs spans seen cells es (n + 1) (listed_entries rows);
        width : rows.width ≡ c.args.rows.now.width;
        aggregate_count : rows.aggregate_count ≡ c.args.rows.now.aggregate_count;
      }) (sym w.rows-is) (record {
        listed = λ once. subst (λ m. IsListedTo gs spans seen cells es m
            (listed_entries c.loop-id.rows)) (sym (add-one n))
            (list_skip gs spans seen cells es c.requires.long n c.loop-id-test.true
            (listed_entries c.loop-id.rows) (now.listed once) w.if-seen-id.false);
        width = now.width;
        aggregate_count = now.aggregate_count;
      })
    ]

pub returns-clause-rows : goal.returns-clause-rows
returns-clause-rows c = λ once.
    let all : c.loop-id.id ≡ id_count c.args.spans.now =
    omega (
      arith,
      c.loop-id-test.false,
      c.loop-id.auto.id-end,
      c.requires.ids,
    ) in
    list_end c.args.aggregates.now c.args.spans.now c.args.seen.now c.args.cells.now
    (listed_entries c.args.rows.now) (omega (arith, c.requires.keys, c.args.rows.now.few))
    c.loop-id.id all (listed_entries c.loop-id.rows) (c.loop-id.invariant.listed once)
