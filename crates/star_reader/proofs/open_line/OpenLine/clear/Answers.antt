use Rattle.std.proofs.Common.{refl}
use Rattle.star_reader.proofs.OpenLines.{fresh}
use Rattle.star_reader.proofs.open_line.OpenLine.clear.Goals as goal

pub returns : goal.returns
returns c = λ kinds. fresh kinds _ c.clear.ensures.items refl refl
