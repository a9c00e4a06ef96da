use Rattle.star_verify.proofs.{Common.flag_at, Common.target_again, Common.target_of, Positions.no_fault}
use Rattle.star_verify.proofs.input.CheckInput.check_instruction.Goals as goal

pub perform-requires-clause-fine : goal.perform-requires-clause-fine
perform-requires-clause-fine c = (
  c.args.position.inside,
  target_again (flag_at c.deref-2.result.now) (target_of c.args.op.now),
  no_fault _ (rw c.deref.ensures.value at c.in-Ok.ensures),
)
