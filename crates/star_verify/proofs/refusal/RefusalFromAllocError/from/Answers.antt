use Rattle.std.proofs.Common.{rules}
use Rattle.star_verify.proofs.refusal.RefusalFromAllocError.from.Goals as goal

pub returns : goal.returns
returns c = search rules
