use Rattle.star_group.proofs.{Common.{◌≡◌, ◌+◌, ◌-◌, drop, take, ap, arith, vectors_of}, ArrayVectors.taken_more}
use Rattle.star_group.proofs.array_store.cells.take_put.Goals as goal

pub loop-number-preserved : goal.loop-number-preserved
loop-number-preserved c =
    let a = c.loop-number.number in
    let one : a + 1 - a ≡ 1 = omega arith in
    taken_more c.args.aggregates.now c.args.ids (vectors_of c.args.values.now) c.args.at.now _ _
    _ a
    _ c.loop-number.invariant c.loop-number-test.true
    (ap (λ n. take n (drop a c.args.values.now)) one) c.take_column.ensures.cells
    c.take_column.ensures.len
