use Rattle.std.proofs.Common.{rules}
use Rattle.star_catalogue.proofs.Refers.{none_absent}
use Rattle.star_catalogue.proofs.references.absent_key.Goals as goal

pub unreachable-requires : goal.unreachable-requires
unreachable-requires c = c.requires (none_absent c.args.tables.now c.in-Ok.ensures)

pub returns : goal.returns
returns c = search rules
