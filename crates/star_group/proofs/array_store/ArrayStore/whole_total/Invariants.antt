use Rattle.star_group.proofs.ArrayRows.{IsSummed}
use Rattle.star_group.proofs.array_store.ArrayStore.whole_total.Given as goal

abbrev pub invariant-loop-id : goal.invariant-loop-id
invariant-loop-id l = IsSummed l.self l.id l.total
