use Rattle.std.proofs.Common.{sym}
use Rattle.star_kinds.proofs.instruction.check_operands.Goals as goal

pub returns-in-Put : goal.returns-in-Put
returns-in-Put g c = rw (
  c.in-Put.is,
  sym c.requires.wide,
  sym c.as_slice.ensures,
  sym c.as_slice-in-Put.ensures,
) c.check_put.ensures
