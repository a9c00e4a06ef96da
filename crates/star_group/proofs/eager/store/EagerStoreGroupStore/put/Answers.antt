use Rattle.star_group.{proofs.Common.{⊎_elim, sym, ◌∙◌, true≢false, rules, Update}, specs.Eager.group_view, proofs.Rooms.room_stays}
use Rattle.star_group.proofs.eager.store.EagerStoreGroupStore.put.Goals as goal

pub unreachable-requires : goal.unreachable-requires
unreachable-requires c =
    let s = c.args.self.now in
    let d = group_view s in
    let u : Update = record { keys = c.args.keys.now; values = c.args.values.now } in
    let room = c.requires.room in
    ⊎_elim {C = ⊥} (λ e. let no : ⊥ = cc (e, c.in-Err-Overflow.field-0-is) in no)
    (λ over. true≢false (sym (over room.0 room.1) ∙ room_stays d room.0 u room.2))
    c.in-Err-Overflow.ensures.overflow

pub returns-in-Err-OutOfMemory-clause-ok : goal.returns-in-Err-OutOfMemory-clause-ok
returns-in-Err-OutOfMemory-clause-ok c = search rules
