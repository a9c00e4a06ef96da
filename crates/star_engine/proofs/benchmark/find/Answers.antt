use Rattle.std.proofs.Common.{refl}
use Rattle.star_engine.specs.RunTexts.{run_text_of}
use Rattle.star_engine.proofs.benchmark.find.Goals as goal

pub returns-in-Ok : goal.returns-in-Ok
returns-in-Ok c = (run_text_of c.in-Ok.ran, c.in-Ok.ensures, refl)
