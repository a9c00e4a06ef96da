use Rattle.std.proofs.Common.{rules}
use Rattle.star_schema.proofs.column.references.Goals as goal

pub returns : goal.returns
returns c = search rules
