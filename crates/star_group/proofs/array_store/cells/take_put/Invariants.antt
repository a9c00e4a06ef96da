use Rattle.star_group.proofs.{Common.vectors_of, ArrayVectors.TakenBelow}
use Rattle.star_group.proofs.array_store.cells.take_put.Given as goal

abbrev pub invariant-loop-number : goal.invariant-loop-number
invariant-loop-number l =
    TakenBelow l.aggregates l.ids (vectors_of l.values) l.at l.fn.cells l.cells l.number
