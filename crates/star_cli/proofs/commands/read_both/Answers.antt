use Rattle.std.proofs.Common.{refl}
use Rattle.star_cli.proofs.commands.read_both.Goals as goal

pub returns : goal.returns
returns g c = (
  (c.in_ok-read_tables.field-0, refl, c.in_ok-read_tables.ensures.read),
  c.in_ok-file.ensures.read,
)
