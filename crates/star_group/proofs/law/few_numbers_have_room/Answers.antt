use Rattle.star_group.proofs.SmallNumbers.{few_room}
use Rattle.star_group.proofs.law.few_numbers_have_room.Goals as goal

pub returns : goal.returns
returns c = few_room
