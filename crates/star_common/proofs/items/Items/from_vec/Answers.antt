use Rattle.std.proofs.Common.{rules}
use Rattle.star_common.proofs.items.Items.from_vec.Goals as goal

pub returns : goal.returns
returns g c = search rules
