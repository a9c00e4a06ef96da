use Rattle.std.proofs.Common.{refl, inr, rules}
use Rattle.star_cli.{specs.declared.failure.Failure.TheVariants.OutOfMemory, proofs.PrintingFailures.memory_text}
use Rattle.star_cli.proofs.failure.Failure.print.Goals as goal

pub returns-in-Err : goal.returns-in-Err
returns-in-Err g c = (
  OutOfMemory,
  inr refl,
  (c.as_bytes-in-Err.result.now, memory_text _ (search rules), (refl, c.print.ensures)),
  refl,
)
