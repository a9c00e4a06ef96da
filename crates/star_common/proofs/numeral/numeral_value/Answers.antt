use Rattle.std.proofs.Common.{rules}
use Rattle.star_common.proofs.numeral.numeral_value.Goals as goal

pub returns : goal.returns
returns c = search rules
