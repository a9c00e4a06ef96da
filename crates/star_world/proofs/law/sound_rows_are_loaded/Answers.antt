use Rattle.star_world.proofs.Loaded.{loaded}
use Rattle.star_world.proofs.law.sound_rows_are_loaded.Goals as goal

pub returns : goal.returns
returns c = loaded
