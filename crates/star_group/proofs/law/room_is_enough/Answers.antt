use Rattle.star_group.proofs.Rooms.{room_stays}
use Rattle.star_group.proofs.law.room_is_enough.Goals as goal

pub returns : goal.returns
returns c = room_stays
