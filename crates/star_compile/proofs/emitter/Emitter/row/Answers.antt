use Rattle.std.proofs.Common.{rules}
use Rattle.star_compile.proofs.emitter.Emitter.row.Goals as goal

pub find-requires : goal.find-requires
find-requires c = search rules
