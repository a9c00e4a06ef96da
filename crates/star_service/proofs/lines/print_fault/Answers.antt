use Rattle.std.proofs.Common.{refl, inr, rules, subst}
use Rattle.star_engine.specs.{declared.fault.EngineFault.TheVariants.OutOfMemory, Answered.change}
use Rattle.star_service.{specs.Lines.IsTextPrinted, proofs.PrintingFaults.memory_line}
use Rattle.star_service.proofs.lines.print_fault.Goals as goal

pub returns-in-Err : goal.returns-in-Err
returns-in-Err g c = (
  OutOfMemory,
  inr refl,
  subst (IsTextPrinted (change g.S.Sink.contents g.S.Sink.is_failed c.args.err.now
      c.print-in-Err.new.sink))
      (memory_line _ (search rules)) c.print-in-Err.ensures,
  refl,
)
