use Rattle.std.proofs.Common.{rules}
use Rattle.star_schema.proofs.table.key_of.Goals as goal

pub returns-in-Lineorder : goal.returns-in-Lineorder
returns-in-Lineorder c = search rules
