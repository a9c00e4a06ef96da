use Rattle.std.proofs.Common.{subst}
use Rattle.star_verify.proofs.{Common.Answers, Common.Kinds, Common.fault_of, Registers.same_kinds}
use Rattle.star_verify.proofs.register.check_kinds.Goals as goal

pub returns : goal.returns
returns c =
    subst (λ (kinds : Kinds).
    Answers c.check.result (fault_of c.args.parts.now c.args.inside c.args.again kinds
    c.args.op.now)) (same_kinds c.args.registers.now) c.check.ensures
