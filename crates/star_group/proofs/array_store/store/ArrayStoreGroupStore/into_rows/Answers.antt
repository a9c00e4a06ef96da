use Rattle.star_group.proofs.{Common.{arith, ap, length, subst, group_with, AreRows}, ArrayPuts.{rolled_of, rolled_room}, Contents.if_ok}
use Rattle.star_group.proofs.array_store.store.ArrayStoreGroupStore.into_rows.Goals as goal

pub push_ids-requires-clause-keys : goal.push_ids-requires-clause-keys
push_ids-requires-clause-keys c =
    let s = c.args.self in
    omega (arith, ap length c.as_slice.ensures.value, s.keys, s.rest.wide, c.reserve.ensures.width)

pub rows_of_base-requires-clause-key_count : goal.rows_of_base-requires-clause-key_count
rows_of_base-requires-clause-key_count c =
    omega (
      arith,
      c.args.self.rest.wide,
      c.reserve.ensures.width,
      c.in_ok-push_ids.ensures.width,
    )

pub rows_of_base-requires-clause-room : goal.rows_of_base-requires-clause-room
rows_of_base-requires-clause-room c =
    rolled_room c.args.self c.as_slice-aggregates.ensures.value c.as_slice.ensures.value
    c.as_slice-seen.ensures.value c.as_slice-2.ensures.value c.reserve.ensures.rows
    c.in_ok-push_ids.ensures.rows

pub returns : goal.returns
returns c =
    let s = c.args.self in
    if_ok _ _ c.rows_of_base.result
    (λ rows are puts has.
    subst (λ gs. AreRows (group_with s.rest.shape s.rest.key_count gs) puts rows)
    c.as_slice-aggregates.ensures.value
    (are puts (rolled_of s c.as_slice-aggregates.ensures.value c.as_slice.ensures.value
    c.as_slice-seen.ensures.value c.as_slice-2.ensures.value c.reserve.ensures.rows
    c.in_ok-push_ids.ensures.rows puts has)))
    c.rows_of_base.ensures
