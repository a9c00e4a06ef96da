use Rattle.std.proofs.Common.{rules}
use Rattle.star_schema.proofs.name.name_of.Goals as goal

pub returns : goal.returns
returns c = search rules
