use Rattle.star_group.proofs.{Common.{◌≤◌, arith, subst, sym, HasBaseWithRoom, IsBase, entries_of, group_with, AreRows}, AllRows.{base_rolled, base_room}, Contents.if_ok, KeyedRows.rows_once}
use Rattle.star_group.proofs.deferred.store.DeferredStoreGroupStore.into_rows.Goals as goal

pub rows_of_base-requires-clause-room : goal.rows_of_base-requires-clause-room
rows_of_base-requires-clause-room c =
    let s = c.args.self in
    base_room s.shape s.key_count c.as_slice-aggregates.result.now (entries_of s.rows) s.total
    (omega (arith, s.wide, s.rows.listed.few))
    (subst (λ hs. HasBaseWithRoom (group_with s.shape s.key_count hs) (entries_of s.rows) s.total)
    (sym c.as_slice-aggregates.ensures.value) s.room) (rows_once s.rows)

pub returns : goal.returns
returns c =
    let s = c.args.self in
    let same = c.as_slice-aggregates.ensures.value in
    let few : s.key_count ≤ 6 = omega (arith, s.wide, s.rows.listed.few) in
    if_ok _ _ c.rows_of_base.result
    (λ rows are puts has.
    subst (λ hs. AreRows (group_with s.shape s.key_count hs) puts rows) same
    (are puts
    (let base : IsBase (group_with s.shape s.key_count c.as_slice-aggregates.result.now)
    (entries_of s.rows) s.total puts =
    subst (λ hs. IsBase (group_with s.shape s.key_count hs) (entries_of s.rows) s.total puts)
    (sym same) has in
    base_rolled _ (entries_of s.rows) puts few base.fit base.rows (rows_once s.rows))))
    c.rows_of_base.ensures
