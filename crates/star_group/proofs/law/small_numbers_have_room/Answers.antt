use Rattle.star_group.proofs.SmallNumbers.{small_room}
use Rattle.star_group.proofs.law.small_numbers_have_room.Goals as goal

pub returns : goal.returns
returns c = small_room
