use Rattle.star_group.{proofs.Common.{◌≡◌, ◌∷◌, List, arith, rules, subst, sym, HasBaseWithRoom, IsBase, IsMerged, IsMergedAt, IsRowOfOnePut, MergeStays, RowsStay, entries_of, key_view, row_found, Update}, proofs.Bases.{base_more, base_stays, total_stays}, proofs.KeyedRows.base_narrow, proofs.deferred.DeferredStore.add.Goals.After-merge-2, specs.Deferred.group_view}
use Rattle.star_group.proofs.deferred.DeferredStore.add.Goals as goal

pub merge-requires-clause-narrow : goal.merge-requires-clause-narrow
merge-requires-clause-narrow c =
    base_narrow c.args.self.now.rows.listed.width c.base_key.result c.args.keys.now
    c.base_key.ensures (omega (arith, c.requires.keys, c.args.self.now.wide))

pub merge-requires-clause-stays : goal.merge-requires-clause-stays
merge-requires-clause-stays c =
    let s = c.args.self.now in
    let same = c.as_slice-aggregates.ensures.value in
    let room = c.requires.room in
    subst (λ gs. RowsStay gs (row_found (entries_of s.rows) (key_view c.base_key.result))
    c.row_of_put-row.result) (sym same)
    (base_stays (group_view s) room.0 (record {
      keys = c.args.keys.now;
      values =
          c.args.values.now;
    })
    c.base_key.result c.row_of_put-row.result c.base_key.ensures
    (subst (λ gs. IsRowOfOnePut gs c.args.values.now c.row_of_put-row.result) same
    c.row_of_put-row.ensures) (entries_of s.rows) s.total room.1 room.2)

pub merge-requires-2-clause-stays : goal.merge-requires-2-clause-stays
merge-requires-2-clause-stays c =
    let s = c.args.self.now in
    let same = c.as_slice-aggregates.ensures.value in
    let room = c.requires.room in
    subst (λ gs. MergeStays gs s.total c.row_of_put-row.result) (sym same)
    (total_stays (group_view s) room.0 (record {
      keys = c.args.keys.now;
      values =
          c.args.values.now;
    })
    c.row_of_put-row.result
    (subst (λ gs. IsRowOfOnePut gs c.args.values.now c.row_of_put-row.result) same
    c.row_of_put-row.ensures) room.2 s.total room.1.total)

-- whichever puts the store had, it has one more
more : (c : After-merge-2) → (us : List Update)
    → IsBase (group_view c.args.self.now) (entries_of c.args.self.now.rows) c.args.self.now.total us
    → IsBase (group_view c.args.self.now) (entries_of c.merge.new.self) c.merge-2.new.self
    (record { keys = c.args.keys.now; values = c.args.values.now } ∷ us)
more c us base =
    let s = c.args.self.now in
    let same = c.as_slice-aggregates.ensures.value in
    let merged : IsMergedAt c.as_slice-aggregates.result.now (key_view c.base_key.result)
    c.row_of_put-row.result (entries_of s.rows) (entries_of c.merge.new.self) = search rules in
    base_more (group_view s) us (record { keys = c.args.keys.now; values = c.args.values.now })
    c.base_key.result c.row_of_put-row.result c.base_key.ensures
    (subst (λ gs. IsRowOfOnePut gs c.args.values.now c.row_of_put-row.result) same
    c.row_of_put-row.ensures) (entries_of s.rows) s.total base c.requires.keys
    (entries_of c.merge.new.self) c.merge-2.new.self
    (subst (λ gs. IsMergedAt gs (key_view c.base_key.result) c.row_of_put-row.result
    (entries_of s.rows) (entries_of c.merge.new.self)) same merged)
    (subst (λ gs. IsMerged gs s.total c.row_of_put-row.result c.merge-2.new.self) same
    c.merge-2.ensures)

pub invariant_of-self-clause-room : goal.invariant_of-self-clause-room
invariant_of-self-clause-room c =
    let s = c.args.self.now in
    let kept : entries_of c.merge.new.self ≡ entries_of s.rows = search rules in
    subst (λ es. HasBaseWithRoom (group_view s) es s.total) (sym kept) s.room

pub invariant_of-self-2-clause-room : goal.invariant_of-self-2-clause-room
invariant_of-self-2-clause-room c =
    let room = c.requires.room in
    ∣ (
      record { keys = c.args.keys.now; values = c.args.values.now } ∷ room.0,
      more (goal.at.invariant_of-self-2-clause-room c).After-merge-2 room.0 room.1,
      room.2,
    ) ∣₁

pub returns-clause-ok : goal.returns-clause-ok
returns-clause-ok c = more (goal.at.returns-clause-ok c).After-merge-2
