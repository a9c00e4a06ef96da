use Rattle.std.proofs.Common.{ap, sym, subst, ◌∙◌}
use Rattle.star_program.specs.Effects.{GoesOn}
use Rattle.star_trial.specs.Private.Views.{registers_view}
use Rattle.star_outcome.{specs.Sound.AreSound, proofs.Registers.sound_set}
use Rattle.star_trial.proofs.act.assign.Goals as goal

pub returns : goal.returns
returns c =
    let m = c.args.machine.now in
    record {
      does = λ s done.
          let made = c.in_ok-value.ensures.does s c.args.target done in
          record {
            s = made.s;
            does = made.does ∙ ap (λ registers. GoesOn registers made.s) (sym c.set.ensures.set);
            done = made.done;
          };
      sound = subst (AreSound m.catalogue.now) (sym c.set.ensures.set)
          (sound_set m.catalogue.now (registers_view c.args.registers.now) c.args.target _
          c.requires.ready.sound
          (c.in_ok-value.ensures.does c.requires.ready.done.0 c.args.target
          c.requires.ready.done.1).sound);
      len = c.set.ensures.len;
      work = c.operate.ensures.work;
    }
