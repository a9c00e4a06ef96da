use Rattle.star_group.proofs.{Common.{◌≡◌, ◌<◌, ◌∙◌, ℕ, add-one, ap, arith, below_more, drop, get_or, length, map, pos, subst, suc, sym, get_or_default, Count, Sum, is_i64, value_count, aligned, put_in, word_in, CanTake, HasNarrow, batch_vectors, put_number}, ArrayVectors.{count_left, next_numbers, taken_more, vector_same}, array_store.cells.take_vectors.Goals.After-are_narrow}
use Rattle.star_group.proofs.array_store.cells.take_vectors.Goals as goal

-- the number of a row's put, and those after it
next : (c : After-are_narrow) (row : ℕ) → row < c.args.batch.now.rows
    → (put_number c.loop-number.number (put_in c.args.batch.now row)
    ≡ get_or c.next_vector.result.0.now row (pos 0))
    × (drop (suc c.loop-number.number) (put_in c.args.batch.now row).values
    ≡ aligned (pos 1) (drop (suc c.loop-number.number) c.args.aggregates.now)
    (map (word_in c.args.batch.now.vectors.now row) c.next_vector.result.1.now))
next c row h =
    let gs = c.args.aggregates.now in
    let f = word_in c.args.batch.now.vectors.now row in
    next_numbers gs c.loop-number.number Sum (put_in c.args.batch.now row).values
    (map f c.loop-number.left.now) (map f c.next_vector.result.1.now)
    (get_or c.next_vector.result.0.now row (pos 0)) c.loop-number-test.true
    (c.loop-number.invariant.numbers row h)
    (c.next_vector.ensures.next row h (drop (suc c.loop-number.number) gs))

same : (c : After-are_narrow)
    → c.next_vector.result.0.now ≡ batch_vectors c.args.batch.now c.loop-number.number
same c = vector_same c.next_vector.result.0.now
    (λ row. put_number c.loop-number.number (put_in c.args.batch.now row)) c.args.batch.now.rows
    c.next_vector.ensures.len (λ row h. sym (next c row h).0)

narrow : (c : After-are_narrow) → HasNarrow c.args.batch.now c.loop-number.number
narrow c row h = ap is_i64 (next c row h).0 ∙ c.are_narrow.ensures row

pub take_column-requires-clause-stays : goal.take_column-requires-clause-stays
take_column-requires-clause-stays c =
    let w = (goal.at.take_column-requires-clause-stays c).After-are_narrow in
    let a = c.loop-number.number in
    coe 1 0 (i. CanTake
    (get_or_default c.args.aggregates.now a Sum Count c.loop-number-test.true i) (same w i)
    c.args.at.now (c.loop-number.invariant.taken.later a (omega arith) i))
    (c.requires.stays a c.loop-number-test.true (narrow w))

pub loop-number-preserved : goal.loop-number-preserved
loop-number-preserved c =
    let w = (goal.at.loop-number-preserved c).After-are_narrow in
    let b = c.args.batch.now in
    let gs = c.args.aggregates.now in
    let a = c.loop-number.number in
    record {
      taken = taken_more gs c.args.ids (batch_vectors b) c.args.at.now _ _ _ a _
          c.loop-number.invariant.taken c.loop-number-test.true (same w)
          c.take_column.ensures.cells c.take_column.ensures.len;
      narrow = below_more _ _ c.loop-number.invariant.narrow (narrow w);
      numbers = λ r h. subst (λ n.
          drop n (put_in b r).values
          ≡ aligned (pos 1) (drop n gs) (map (word_in b.vectors.now r) c.next_vector.result.1.now))
          (sym (add-one a)) (next w r h).1;
      count = subst (λ n. length c.next_vector.result.1.now ≡ value_count (drop n gs))
          (sym (add-one a)) (count_left gs a Sum (length c.loop-number.left.now)
          (length c.next_vector.result.1.now) c.loop-number-test.true c.loop-number.invariant.count
          c.next_vector.ensures.left);
      vectors = c.next_vector.ensures.vectors;
    }
