use Rattle.star_group.proofs.{Common.{sym, subst, AreGrouped, group_with, entries_of, AreRows}, Contents.if_ok, KeyedRows.rows_once}
use Rattle.star_group.proofs.eager.store.EagerStoreGroupStore.into_rows.Goals as goal

pub returns : goal.returns
returns c =
    let s = c.args.self in
    let same = c.as_slice-aggregates.ensures.value in
    if_ok _ _ c.given.result
    (λ rows are puts has.
    subst (λ hs. AreRows (group_with s.shape s.key_count hs) puts rows) same
    (are (rows_once s.rows) puts
    (subst (λ hs. AreGrouped (group_with s.shape s.key_count hs) (entries_of s.rows) puts)
    (sym same) has.grouped)))
    c.given.ensures
