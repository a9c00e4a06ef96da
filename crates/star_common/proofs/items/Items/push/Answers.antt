use Rattle.std.proofs.Common.{rules}
use Rattle.star_common.proofs.items.Items.push.Goals as goal

pub returns : goal.returns
returns c = search rules
