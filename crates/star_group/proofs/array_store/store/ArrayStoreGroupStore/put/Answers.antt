use Rattle.star_group.proofs.{Common.{◌≡◌, ◌*◌, ◌∷◌, Some, ap, length, sym, ◌∙◌, ℕ, [], subst, refl, get_or, ◌<◌, true, false, filter, with_items, with_items_is, group_view, is_outside, group_id, Update, after_rows, vectors_of, puts_after, HasRoom, AreCellsTaken, AreWithin}, ArrayPuts.{IsAfter, after, can_take_lent, first_row, one_vector, outside_room, room_outside, there}, array_store.store.ArrayStoreGroupStore.put.Goals.{After-are_narrow, After-mark}, Rooms.held_stays}
use Rattle.star_group.proofs.array_store.store.ArrayStoreGroupStore.put.Goals as goal

pub add-requires-clause-room : goal.add-requires-clause-room
add-requires-clause-room c =
    let s = c.args.self.now in
    let u : Update = record { keys = c.args.keys.now; values = c.args.values.now } in
    let room = c.requires.room in (
      filter (λ w. is_outside s.spans.items w.keys) room.0,
      room.1.rest,
      room_outside s u
          (ap (λ spans. group_id spans u.keys) (sym c.as_slice.ensures.value)
          ∙ sym c.in-None.ensures.id) room.0 (held_stays (group_view s) (u ∷ room.0) room.2),
    )

pub invariant_of-self : goal.invariant_of-self
invariant_of-self c =
    let s = c.args.self.now in
    let u : Update = record { keys = c.args.keys.now; values = c.args.values.now } in
    let room = c.requires.room in
    let same = c.add.ensures.group in
    record {
      keys = s.keys ∙ sym (ap (λ d. d.count) same);
      few = s.few;
      marks = s.marks;
      long = s.long ∙ sym (ap (λ d. length d.aggregates * length s.seen.items) same);
      room = outside_room s u
          (ap (λ spans. group_id spans u.keys) (sym c.as_slice.ensures.value)
          ∙ sym c.in-None.ensures.id) room.0 c.add.new.self same c.add.result c.requires.keys
          room.1 (held_stays (group_view s) (u ∷ room.0) room.2) c.add.ensures.ok
          c.add.ensures.refused;
    }

-- ---- a put at a position

abbrev put_of : After-are_narrow → Update
put_of c = record { keys = c.args.keys.now; values = c.args.values.now }

is : (c : After-are_narrow) (row : ℕ) → row < 1
    → group_id c.args.self.now.spans.items c.args.keys.now ≡ Some (get_or (c.in-Some.id ∷ []) row 0)
is c = first_row (λ row. group_id c.args.self.now.spans.items c.args.keys.now
    ≡ Some (get_or (c.in-Some.id ∷ []) row 0))
    (ap (λ spans. group_id spans c.args.keys.now) (sym c.as_slice.ensures.value)
    ∙ sym c.in-Some.ensures.id)

within : (c : After-are_narrow) → AreWithin (c.in-Some.id ∷ []) (length c.args.self.now.seen.items)
within c = there c.args.self.now (λ row. put_of c) (c.in-Some.id ∷ [])
    (vectors_of c.args.values.now) 1 (is c) refl

pub take_put-requires-clause-within : goal.take_put-requires-clause-within
take_put-requires-clause-within c = subst (AreWithin (c.in-Some.id ∷ []))
    (sym (ap length c.as_slice-all.ensures.value))
    (within (goal.at.take_put-requires-clause-within c).After-are_narrow)

pub take_put-requires-clause-stays : goal.take_put-requires-clause-stays
take_put-requires-clause-stays c = λ a h.
    let before = (goal.at.take_put-requires-clause-stays c).After-are_narrow in
    let u = put_of before in
    let room = c.requires.room in
    can_take_lent c.args.self.now (λ row. u) (c.in-Some.id ∷ []) (vectors_of c.args.values.now) 1
    (is before) refl c.as_slice-aggregates.ensures.value (ap length c.as_slice-all.ensures.value)
    c.as_mut_slice.ensures.value room.0 room.1
    (first_row (λ row. HasRoom (group_view c.args.self.now) (u ∷ puts_after (λ r. u) room.0 row))
    room.2) a h (one_vector u a (c.are_narrow.ensures a))

pub mark-requires : goal.mark-requires
mark-requires c = record {
  within = subst (AreWithin (c.in-Some.id ∷ []))
      (sym (ap length c.as_mut_slice-in-Some.ensures.value))
      (within (goal.at.mark-requires c).After-are_narrow);
}

put : (c : After-mark) → IsAfter c.args.self.now
    (λ row. record { keys = c.args.keys.now; values = c.args.values.now }) 1
    (with_items c.args.self.now.seen c.mark.new.seen).items
    (with_items c.args.self.now.cells c.take_put.new.cells).items
put c =
    let s = c.args.self.now in
    let at = c.in-Some.id ∷ [] in
    let u : Update = record { keys = c.args.keys.now; values = c.args.values.now } in
    let cells = with_items_is s.cells c.take_put.new.cells
    (c.take_put.ensures.len ∙ c.as_mut_slice.ensures.len) in
    after s (λ row. u) at (vectors_of c.args.values.now) 1
    (first_row (λ row. group_id s.spans.items u.keys ≡ Some (get_or at row 0))
    (ap (λ spans. group_id spans u.keys) (sym c.as_slice.ensures.value)
    ∙ sym c.in-Some.ensures.id)) refl _ _
    (with_items_is s.seen c.mark.new.seen
    (c.mark.ensures.len ∙ c.as_mut_slice-in-Some.ensures.len) ∙ c.mark.ensures.seen
    ∙ ap (λ xs. after_rows false (λ row was. true) at xs 1) c.as_mut_slice-in-Some.ensures.value)
    (coe 0 1 (i. AreCellsTaken (c.as_slice-aggregates.ensures.value i)
    (length (c.as_slice-all.ensures.value i)) (vectors_of c.args.values.now) at
    (c.as_mut_slice.ensures.value i) (sym cells i)) c.take_put.ensures)
    (λ a h. one_vector u a (c.are_narrow.ensures a))

pub invariant_of-self-in-Some : goal.invariant_of-self-in-Some
invariant_of-self-in-Some c =
    let s = c.args.self.now in
    let room = c.requires.room in
    let u : Update = record { keys = c.args.keys.now; values = c.args.values.now } in
    let now = put (goal.at.invariant_of-self-in-Some c).After-mark in
    record {
      keys = s.keys;
      few = s.few;
      marks = now.marks ∙ s.marks;
      long = now.long;
      room = ∣ (
        u ∷ room.0,
        now.has room.0 room.1,
        held_stays (group_view s) (u ∷ room.0) room.2,
      ) ∣₁;
    }

pub returns-in-Some-clause-ok : goal.returns-in-Some-clause-ok
returns-in-Some-clause-ok c = (put (goal.at.returns-in-Some-clause-ok c).After-mark).has
