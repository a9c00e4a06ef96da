use Rattle.std.{proofs.Common.{◌≡◌, ◌∙◌, ap, arith, rules, subst, false}, proofs.lemmas.Result.err_from_is_err_and, specs.Prelude.nat_lt}
use Rattle.star_program.specs.{Effects.empty_state, Run.meaning, Values.no_registers}
use Rattle.star_trial.{specs.Private.Views.registers_view, specs.Trials.IsFaultOfEnd, specs.Private.Walks.Finishes, proofs.Registers.sound_nothing}
use Rattle.star_world.specs.WorldOf.{world_of}
use Rattle.star_trial.proofs.trials.run_through.Goals as goal

pub walk-requires-clause-ready : goal.walk-requires-clause-ready
walk-requires-clause-ready c =
    let done = c.in_ok-run.ensures c.args.catalogue.now in
    let empty = ap registers_view c.as_mut_slice.ensures.value ∙ c.in_ok-registers.ensures.empty in
    record {
      wide = search rules;
      deep = search (arith, rules);
      few = record {
        visits = omega (arith, done.visits);
        work = omega (
          arith,
          done.visits,
          done.lookups,
          done.updates,
          c.requires.limits.instructions,
        );
      };
      sound = sound_nothing c.args.catalogue.now (registers_view c.as_mut_slice.result.now) empty;
      done = (empty_state, done);
    }

pub returns-in_err-walk : goal.returns-in_err-walk
returns-in_err-walk c =
    let p = err_from_is_err_and c.from_residual-in_err-walk.result
    c.from_residual-in_err-walk.ensures.1 in
    let nothing : registers_view c.as_mut_slice.result.now ≡ no_registers =
    ap registers_view c.as_mut_slice.ensures.value ∙ c.in_ok-registers.ensures.empty in
    rw (p.1, p.2)
    (subst (λ registers. IsFaultOfEnd
    (meaning (world_of c.args.catalogue.now) c.args.parts.now
    (λ visits. nat_lt visits c.args.most) c.args.parts.now.body 1 false registers empty_state)
    c.in_err-walk.field-0.0) nothing
    (c.in_err-walk.ensures.ends empty_state (c.in_ok-run.ensures c.args.catalogue.now)))

pub returns : goal.returns
returns c =
    let nothing : registers_view c.as_mut_slice.result.now ≡ no_registers =
    ap registers_view c.as_mut_slice.ensures.value ∙ c.in_ok-registers.ensures.empty in
    subst (λ registers. Finishes c.args.catalogue.now c.args.parts.now c.walk.new.run
    (meaning (world_of c.args.catalogue.now) c.args.parts.now
    (λ visits. nat_lt visits c.args.most) c.args.parts.now.body 1 false registers empty_state))
    nothing (c.in_ok-walk.ensures.ends empty_state (c.in_ok-run.ensures c.args.catalogue.now))
