use Rattle.star_group.proofs.{Common.{ap, arith, false, length, subst, sym, true, ◌∙◌, with_items, with_items_is, put_in, after_rows, batch_vectors, AreCellsTaken, AreWithin}, ArrayPuts.{IsAfter, after, batch_room, batch_vector, can_take_lent, there}, array_store.ArrayStore.put_at.Goals.After-mark}
use Rattle.star_group.proofs.array_store.ArrayStore.put_at.Goals as goal

pub take_vectors-requires-clause-within : goal.take_vectors-requires-clause-within
take_vectors-requires-clause-within c = subst (AreWithin c.args.ids.now)
    (sym (ap length c.as_slice-all.ensures.value))
    (there c.args.self.now (put_in c.args.batch.now) c.args.ids.now
    (batch_vectors c.args.batch.now) c.args.batch.now.rows c.requires.at c.requires.rows)

pub take_vectors-requires-clause-stays : goal.take_vectors-requires-clause-stays
take_vectors-requires-clause-stays c = λ a h narrow.
    let b = c.args.batch.now in
    let room = c.requires.room in
    can_take_lent c.args.self.now (put_in b) c.args.ids.now
    (batch_vectors b) b.rows c.requires.at
    c.requires.rows c.as_slice-aggregates.ensures.value (ap length c.as_slice-all.ensures.value)
    c.as_mut_slice.ensures.value room.0 room.1 room.2 a h (batch_vector b a narrow)

pub mark-requires : goal.mark-requires
mark-requires c = record {
  within = subst (AreWithin c.args.ids.now) (sym (ap length c.as_mut_slice-2.ensures.value))
      (there c.args.self.now (put_in c.args.batch.now) c.args.ids.now
      (batch_vectors c.args.batch.now) c.args.batch.now.rows c.requires.at c.requires.rows);
}

-- whichever puts the store had, it has them and those of the rows
put : (c : After-mark) → IsAfter c.args.self.now (put_in c.args.batch.now) c.args.batch.now.rows
    (with_items c.args.self.now.seen c.mark.new.seen).items
    (with_items c.args.self.now.cells c.take_vectors.new.cells).items
put c =
    let s = c.args.self.now in
    let b = c.args.batch.now in
    let at = c.args.ids.now in
    let aggregates = c.as_slice-aggregates.ensures.value in
    let cells = with_items_is s.cells c.take_vectors.new.cells
    (c.take_vectors.ensures.cells.len ∙ c.as_mut_slice.ensures.len) in
    after s (put_in b) at (batch_vectors b) b.rows c.requires.at c.requires.rows _ _
    (with_items_is s.seen c.mark.new.seen (c.mark.ensures.len ∙ c.as_mut_slice-2.ensures.len)
    ∙ c.mark.ensures.seen
    ∙ ap (λ xs. after_rows false (λ row was. true) at xs
    (length at)) c.as_mut_slice-2.ensures.value)
    (coe 0 1 (i. AreCellsTaken (aggregates i) (length (c.as_slice-all.ensures.value i))
    (batch_vectors b) at (c.as_mut_slice.ensures.value i)
    (sym cells i)) c.take_vectors.ensures.cells)
    (λ a h. batch_vector b a (c.take_vectors.ensures.narrow a
    (omega (arith, h, ap length aggregates))))

pub invariant_of-self : goal.invariant_of-self
invariant_of-self c =
    let s = c.args.self.now in
    let room = c.requires.room in
    let now = put (goal.at.invariant_of-self c).After-mark in
    record {
      keys = s.keys;
      few = s.few;
      marks = now.marks ∙ s.marks;
      long = now.long;
      room = batch_room s (put_in c.args.batch.now) c.args.batch.now.rows room.0 _ _ now room.1
          room.2;
    }

pub returns-clause-has : goal.returns-clause-has
returns-clause-has c = (put (goal.at.returns-clause-has c).After-mark).has
