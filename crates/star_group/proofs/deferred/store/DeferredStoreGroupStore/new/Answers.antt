use Rattle.star_group.proofs.{Bases.new_room, Bases.no_base, Totals.nothing_none}
use Rattle.star_group.proofs.deferred.store.DeferredStoreGroupStore.new.Goals as goal

pub invariant_of-result-clause-room : goal.invariant_of-result-clause-room
invariant_of-result-clause-room c =
    new_room _ _ _ c.in_ok-rows.ensures.empty (nothing_none _ c.new-2.ensures)

pub returns-clause-empty : goal.returns-clause-empty
returns-clause-empty c = no_base _ _ _ c.in_ok-rows.ensures.empty (nothing_none _ c.new-2.ensures)
