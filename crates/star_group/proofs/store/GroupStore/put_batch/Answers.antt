use Rattle.star_group.proofs.{Common.{◌≡◌, ◌≤◌, ◌∷◌, ◌∙◌, ap, arith, length, rules, subst, sym, take, puts_after, put_in, HasRoom}, ArrayPuts.err_any}
use Rattle.star_group.proofs.store.GroupStore.put_batch.Goals as goal

pub put-requires-clause-keys : goal.put-requires-clause-keys
put-requires-clause-keys g c =
    let batch = c.requires.batch in
    let few : length c.args.batch.now.keys.now ≤ 6 = omega (arith, batch.keys, batch.small.keys) in
    let long : length (take (length c.args.batch.now.keys.now) c.keys_in-keys.result)
    ≡ length c.args.batch.now.keys.now = search rules in
    long ∙ batch.keys ∙ ap (λ d. d.count) (c.requires.declared ∙ sym c.loop-row.invariant.group)

pub put-requires-clause-values : goal.put-requires-clause-values
put-requires-clause-values g c =
    let batch = c.requires.batch in
    let few : length c.as_slice.result.now ≤ 8 =
    omega (arith, ap length c.as_slice.ensures, batch.small.aggregates) in
    let long : length (take (length c.as_slice.result.now) c.numbers_in-numbers.result)
    ≡ length c.as_slice.result.now = search rules in
    long ∙ ap length c.as_slice.ensures
    ∙ ap (λ d. length d.aggregates) (c.requires.declared ∙ sym c.loop-row.invariant.group)

pub put-requires-clause-room : goal.put-requires-clause-room
put-requires-clause-room g c =
    let room = c.requires.room in
    let b = c.args.batch.now in
    let row = c.loop-row.row in
    let numbers = ap (λ gs. take (length gs) c.numbers_in-numbers.result) c.as_slice.ensures
    ∙ c.numbers_in-numbers.ensures in
    let same : put_in b row ≡ record {
      keys = take (length b.keys.now) c.keys_in-keys.result;
      values = take (length c.as_slice.result.now) c.numbers_in-numbers.result;
    } =
    (λ i. record { keys = sym c.keys_in-keys.ensures i; values = sym numbers i }) in (
      puts_after (put_in b) room.0 row,
      c.loop-row.invariant.has room.0 room.1,
      subst (λ d. HasRoom d (record {
        keys = take (length b.keys.now) c.keys_in-keys.result;
        values = take (length c.as_slice.result.now) c.numbers_in-numbers.result;
      }
          ∷ puts_after (put_in b) room.0 row)) (sym c.loop-row.invariant.group)
          (subst (λ u. HasRoom (g.Self.GroupStore.group c.args.self.now)
          (u ∷ puts_after (put_in b) room.0 row)) same (room.2 row c.loop-row-test.true)),
    )

pub returns-in_err-put-clause-refused : goal.returns-in_err-put-clause-refused
returns-in_err-put-clause-refused g c = err_any c.from_residual.result
    (λ puts has. (
      c.loop-row.row,
      c.loop-row-test.true,
      c.in_err-put.ensures.refused (puts_after (put_in c.args.batch.now) puts c.loop-row.row)
          (c.loop-row.invariant.has puts has),
    ))
