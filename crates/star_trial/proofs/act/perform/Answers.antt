use Rattle.std.proofs.Common.{sym, subst}
use Rattle.star_trial.specs.Private.Acts.{HasActed, does_op}
use Rattle.star_trial.proofs.act.perform.Goals as goal

pub returns-in-Assign : goal.returns-in-Assign
returns-in-Assign c =
    subst (λ op. HasActed c.args.machine.now c.args.registers.now c.assign.new.registers
    c.args.run.now c.assign.new.run (does_op c.args.machine.now op) c.assign.result)
    (sym c.in-Assign.is) c.assign.ensures

pub returns-in-Put : goal.returns-in-Put
returns-in-Put c =
    subst (λ op. HasActed c.args.machine.now c.args.registers.now c.args.registers.now
    c.args.run.now c.update.new.run (does_op c.args.machine.now op) c.update.result)
    (sym c.in-Put.is) c.update.ensures
