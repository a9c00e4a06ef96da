use Rattle.std.proofs.Common.{◌≡◌, ◌+◌, ℕ, List, false, ap, arith, refl}
use Rattle.star_outcome.proofs.{Fine.sound_keys, Fine.sound_update, Stored.of_same}
use Rattle.star_program.specs.{Effects.update_of, Effects.with_update, Faults.group_at, Private.Doing.puts, Puts.Update, Puts.overflows}
use Rattle.star_trial.specs.{Private.Runs.AreStores, Private.Views.registers_view}
use Rattle.star_trial.proofs.act.update.Goals as goal

pub returns-in-Ok : goal.returns-in-Ok
returns-in-Ok c =
    let m = c.args.machine.now in
    let registers = registers_view c.args.registers.now in
    let d = group_at m.parts.now c.args.group in
    let put = of_same (λ d ks vs. (updates_of : ℕ → List Update)
    → AreStores m.parts.now c.args.run.now.stores.items updates_of
    → AreStores m.parts.now c.put.new.stores.items
    (with_update updates_of c.args.group (update_of d registers ks vs))
    × (overflows (group_at m.parts.now c.args.group).shape
    (group_at m.parts.now c.args.group).aggregates (updates_of c.args.group)
    (update_of d registers ks vs) ≡ false))
    c.group_at.result.now _ c.as_slice.result.now _ c.as_slice-2.result.now _
    c.group_at.ensures c.as_slice.ensures c.as_slice-2.ensures (c.in-Ok.ensures m.parts.now) in
    record {
      does = λ s done.
          let now = put s.updates_of done.stores in
          record {
            s = _;
            does = ap (puts registers s c.args.group
                (update_of d registers c.args.keys.now c.args.values.now)) now.1;
            done = record {
              stores = now.0;
              sound = sound_update m.catalogue.now m.parts.now s.updates_of c.args.group _
                  done.sound
                  (sound_keys m.catalogue.now _ registers d.keys c.args.keys.now
                  c.requires.ready.sound c.requires.placed.keys c.requires.keys);
              visits = done.visits;
              lookups = done.lookups;
              updates = ap (λ n. n + 1) done.updates;
            };
          };
      sound = c.requires.ready.sound;
      len = refl;
      work = record { work = omega arith; visits = refl };
    }
