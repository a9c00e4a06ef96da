use Rattle.std.proofs.{Common.arith, Common.refl, Common.subst, lemmas.Result.err_from_is_err_and}
use Rattle.star_trial.{specs.Private.Acts.IsActed, specs.Private.Views.registers_view, proofs.Checked.{acts, operands_fine, traps}}
use Rattle.star_world.specs.WorldOf.{world_of}
use Rattle.star_trial.proofs.act.act.Goals as goal

pub returns-in_err-check : goal.returns-in_err-check
returns-in_err-check c =
    let m = c.args.machine.now in
    let p = err_from_is_err_and c.from_residual.result c.from_residual.ensures.1 in
    record {
      does = λ s done. rw (p.1, p.2)
          (traps m.parts.now c.args.inside c.args.registers.now c.args.op.now
          (world_of m.catalogue.now) s c.in_err-check.field-0.0 c.in_err-check.ensures);
      sound = rw p.1 tt;
      len = refl;
      work = record { work = omega arith; visits = refl };
    }

pub perform-requires-clause-operands : goal.perform-requires-clause-operands
perform-requires-clause-operands c =
    operands_fine c.args.machine.now.parts.now c.args.inside c.args.registers.now c.args.op.now
    c.in_ok-check.ensures

pub returns : goal.returns
returns c =
    let m = c.args.machine.now in
    record {
      does = λ s done.
          subst (λ effect. IsActed m.catalogue.now m.parts.now
          (registers_view c.perform.new.registers)
          c.perform.new.run effect c.perform.result)
          (acts m.parts.now c.args.inside c.args.registers.now c.args.op.now
          (world_of m.catalogue.now) s c.in_ok-check.ensures) (c.perform.ensures.does s done);
      sound = c.perform.ensures.sound;
      len = c.perform.ensures.len;
      work = c.perform.ensures.work;
    }
