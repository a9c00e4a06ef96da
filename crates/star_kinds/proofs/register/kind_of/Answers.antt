use Rattle.std.proofs.Common.{rules}
use Rattle.star_kinds.proofs.register.kind_of.Goals as goal

pub returns-in-Place : goal.returns-in-Place
returns-in-Place c = search rules
