use Rattle.std.proofs.Common.{rules}
use Rattle.star_common.proofs.sink.OutSink.write.Goals as goal

pub returns-in-Ok-clause-stuck : goal.returns-in-Ok-clause-stuck
returns-in-Ok-clause-stuck c = search rules
