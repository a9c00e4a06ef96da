use Rattle.star_group.proofs.Common.{rules}
use Rattle.star_group.proofs.rows.PutFaultFromAllocError.from.Goals as goal

pub returns : goal.returns
returns c = search rules
