use Rattle.std.proofs.Common.{rules}
use Rattle.star_common.proofs.items.Items.as_slice.Goals as goal

pub returns : goal.returns
returns g c = search rules
