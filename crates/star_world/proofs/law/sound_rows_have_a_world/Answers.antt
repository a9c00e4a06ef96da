use Rattle.star_world.proofs.RowsSeen.{shown}
use Rattle.star_world.proofs.law.sound_rows_have_a_world.Goals as goal

pub returns : goal.returns
returns c = shown
