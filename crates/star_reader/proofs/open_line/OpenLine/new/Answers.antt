use Rattle.std.proofs.Common.{refl}
use Rattle.star_reader.proofs.OpenLines.{fresh}
use Rattle.star_reader.proofs.open_line.OpenLine.new.Goals as goal

pub returns : goal.returns
returns c = λ kinds. fresh kinds _ c.new.ensures.items refl refl
