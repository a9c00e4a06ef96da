use Rattle.star_group.{proofs.Common.◌∷◌, proofs.Rooms.held_stays, specs.Deferred.group_view}
use Rattle.star_group.proofs.deferred.store.DeferredStoreGroupStore.put.Goals as goal

pub add-requires-clause-room : goal.add-requires-clause-room
add-requires-clause-room c =
    let room = c.requires.room in (
      room.0,
      room.1,
      held_stays (group_view c.args.self.now)
          (record { keys = c.args.keys.now; values = c.args.values.now } ∷ room.0) room.2,
    )
