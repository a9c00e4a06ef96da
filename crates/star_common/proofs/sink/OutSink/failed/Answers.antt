use Rattle.std.proofs.Common.{rules}
use Rattle.star_common.proofs.sink.OutSink.failed.Goals as goal

pub returns : goal.returns
returns c = search rules
