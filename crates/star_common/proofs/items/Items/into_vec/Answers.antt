use Rattle.std.proofs.Common.{rules}
use Rattle.star_common.proofs.items.Items.into_vec.Goals as goal

pub returns : goal.returns
returns c = search rules
