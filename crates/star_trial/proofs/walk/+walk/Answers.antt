use Rattle.std.{proofs.Common.{◌≡◌, ◌≤◌, ◌<◌, ◌+◌, ◌-◌, ◌*◌, length, drop, sym, ap, subst, ◌∙◌, arith, refl}, proofs.lemmas.List.drop_all, proofs.lemmas.Result.err_from_is_err_and, specs.Prelude.{nat_lt, true}}
use Rattle.star_schema.specs.Database.{rows_in}
use Rattle.star_program.{specs.Code.{code_size, scan_depth}, specs.CodeOfSteps.code_of_steps, specs.Run.visited, specs.Values.{Registers, with_entry}, specs.declared.value.Value.TheVariants.Row, proofs.Steps.{next_act, next_scan}}
use Rattle.star_trial.{specs.Private.Views.registers_view, specs.Trials.IsFaultOfEnd, specs.Private.Walks.{HasWorked, IsEnd, means, means_at}, specs.Private.Runs.HasDone, proofs.Turned.{act_follows, after_fault, begin_turn, body_deep, done_visited, gone_on, rest_deep, scan_follows, stop_fault, turn_ended, turns_fault, worked_act, worked_more}, proofs.walk.+walk.Goals.{walk-in-Act+in-Ok-GoesOn, walk-in-Scan+in_ok-scan-in-Scan}}
use Rattle.star_outcome.{specs.Sound.AreSound, proofs.Registers.sound_set, proofs.Turns.turn_done}
use Rattle.star_trial.proofs.walk.+walk.Goals as goal

pub turn-walk-requires : goal.turn-walk-requires
turn-walk-requires t c =
    let m = c.args.machine.now in
    let scanned = c.args.scanned.now in
    let at_row = c.set.ensures.set
    ∙ ap (λ xs. with_entry (registers_view xs) scanned.target c.args.row)
    c.copy_from_slice.ensures.after in
    let done = c.requires.ready.done in (
      omega (arith, c.decreases),
      (
        omega (arith, scanned.size),
        (
          scanned.numbered,
          record {
            wide = c.set.ensures.len ∙ c.copy_from_slice.ensures.len ∙ c.requires.wide;
            deep = c.requires.ready.deep;
            few = record {
              visits = omega (arith, c.if-run-machine.false);
              work = omega (arith, c.requires.ready.few.work, scanned.size);
            };
            sound = subst (AreSound m.catalogue.now) (sym at_row)
                (sound_set m.catalogue.now (registers_view scanned.before.now) scanned.target
                c.args.row
                c.requires.ready.sound c.requires.row);
            done = (
              visited done.0,
              done_visited m.catalogue.now m.parts.now c.args.run.now _ done.0 refl refl refl refl
                  done.1,
            );
          },
        ),
      ),
    )

pub turn-returns-clause-ends : goal.turn-returns-clause-ends
turn-returns-clause-ends t c = λ s h.
    let m = c.args.machine.now in
    let meant = λ (registers : Registers).
    means m c.args.scanned.now.body.now (c.args.scanned.now.at + 1) true registers in
    let at_row = c.set.ensures.set
    ∙ ap (λ xs. with_entry (registers_view xs) c.args.scanned.now.target c.args.row)
    c.copy_from_slice.ensures.after in
    let may : s.visits < m.most = omega (arith, h.visits, c.if-run-machine.false) in
    subst (λ end. IsEnd m.catalogue.now m.parts.now c.walk.new.run end c.walk.result)
    (ap (λ registers. meant registers (visited s)) at_row
    ∙ sym (begin_turn m.most s
    (means_at m c.args.scanned.now (registers_view c.args.scanned.now.before.now) c.args.row)
    may))
    (c.walk.ensures.ends (visited s)
    (done_visited m.catalogue.now m.parts.now c.args.run.now _ s refl refl refl refl h))

pub turns-returns-in_err-turn-clause-ends : goal.turns-returns-in_err-turn-clause-ends
turns-returns-in_err-turn-clause-ends t c = λ s h.
    let p = err_from_is_err_and c.from_residual.result c.from_residual.ensures.1 in
    let at = c.loop-row.invariant.ends s h in
    rw (p.1, p.2) (turns_fault (λ visits. nat_lt visits c.args.machine.now.most)
    (length (rows_in c.args.machine.now.catalogue.now c.args.scanned.now.table)) c.loop-row.row
    (λ row. means_at c.args.machine.now c.args.scanned.now
    (registers_view c.args.scanned.now.before.now) (Row c.args.scanned.now.table row)) at.0 _
    c.in_err-turn.field-0.0 (omega (arith, c.loop-row-test.true, c.rows-row-end.ensures))
    (c.in_err-turn.ensures.ends at.0 at.1) at.2)

pub turns-loop-row-preserved : goal.turns-loop-row-preserved
turns-loop-row-preserved t c = record {
  ends = λ s h.
      let at = c.loop-row.invariant.ends s h in
      let done = c.in_ok-turn.ensures.ends at.0 at.1 in (
        done.s,
        done.done,
        sym (turn_done (λ visits. nat_lt visits c.args.machine.now.most)
            (length (rows_in c.args.machine.now.catalogue.now c.args.scanned.now.table))
            c.loop-row.row (λ row. means_at c.args.machine.now c.args.scanned.now
            (registers_view c.args.scanned.now.before.now) (Row c.args.scanned.now.table row)) at.0
            done.s (omega (arith, c.loop-row-test.true, c.rows-row-end.ensures)) done.is) ∙ at.2,
      );
  worked = worked_more c.loop-row.invariant.worked c.in_ok-turn.ensures.worked (omega arith);
}

pub walk-returns-in-Ok-EndsTurn-clause-ends : goal.walk-returns-in-Ok-EndsTurn-clause-ends
walk-returns-in-Ok-EndsTurn-clause-ends t c = λ s h.
    let at = c.loop-step.invariant.ends s h in
    let ends = turn_ended (registers_view c.act.new.registers) c.in-Ok-EndsTurn.field-0-is
    (c.in-Ok-EndsTurn.ensures.does at.0 at.1) in
    record {
      s = ends.s;
      is = sym at.2 ∙ act_follows c.args.machine.now _ c.loop-step.index c.args.inside
          (registers_view c.loop-step.registers) at.0 c.loop-step-test.true c.step-item.is
          c.in-Act.is ends.does;
      done = ends.done;
    }

pub walk-returns-in-Err-clause-ends : goal.walk-returns-in-Err-clause-ends
walk-returns-in-Err-clause-ends t c = λ s h.
    let at = c.loop-step.invariant.ends s h in
    subst (IsFaultOfEnd _) (sym c.stopped.ensures)
    (stop_fault _ c.loop-step.index _ _ c.in-Err.stop (c.in-Err.ensures.does at.0 at.1)
    (sym at.2 ∙ act_follows c.args.machine.now _ c.loop-step.index c.args.inside
    (registers_view c.loop-step.registers) at.0 c.loop-step-test.true c.step-item.is c.in-Act.is
    refl))

pub walk-scan-requires : goal.walk-scan-requires
walk-scan-requires t c =
    let code = next_scan c.as_slice-step-items.result.now c.loop-step.step-index c.step-item.result
    c.in-Scan.table c.in-Scan.target c.in-Scan.body c.loop-step-test.true c.step-item.is
    c.in-Scan.is in
    let left = ap code_size code in
    let so_far = c.loop-step.invariant in
    let now = so_far.ends c.requires.ready.done.0 c.requires.ready.done.1 in (
      omega (arith, c.decreases, left, so_far.placed, so_far.after),
      record {
        wide = c.loop-step.auto.registers ∙ c.requires.ready.wide;
        deep = body_deep c.in-Scan.table c.in-Scan.target c.args.machine.now.parts.now.registers
            (length c.loop-step.frames) c.in-Scan.body
            (code_of_steps (drop (c.loop-step.step-index + 1) c.as_slice-step-items.result.now))
            (subst (λ k. scan_depth k * c.args.machine.now.parts.now.registers
            ≤ length c.loop-step.frames) code so_far.deep);
        few = record {
          visits = so_far.worked.visits;
          work = omega (
            arith,
            so_far.worked.work,
            c.requires.ready.few.work,
            so_far.placed,
            so_far.after,
          );
        };
        sound = so_far.sound;
        done = (now.0, now.1);
      },
    )

pub walk-returns-in_err-scan-in-Scan-clause-ends : goal.walk-returns-in_err-scan-in-Scan-clause-ends
walk-returns-in_err-scan-in-Scan-clause-ends t c = λ s h.
    let p = err_from_is_err_and c.from_residual.result c.from_residual.ensures.1 in
    let at = c.loop-step.invariant.ends s h in
    rw (p.1, p.2) (after_fault _ _ _ c.in_err-scan-in-Scan.field-0.0
    (c.in_err-scan-in-Scan.ensures.ends at.0 at.1)
    (sym at.2 ∙ scan_follows c.args.machine.now _ c.loop-step.index c.args.inside
    (registers_view c.loop-step.registers) at.0 c.loop-step-test.true c.step-item.is
    c.in-Scan.is refl))

pub walk-loop-step-preserved : goal.walk-loop-step-preserved
walk-loop-step-preserved t c =
    elim c.match-step.branch [
      | walk-in-Act+in-Ok-GoesOn w ↦
          (let code = next_act c.as_slice-step-items.result.now c.loop-step.step-index
          c.step-item.result w.in-Act.op c.loop-step-test.true c.step-item.is w.in-Act.is in
          let left = ap code_size code in
          record {
            ends = λ s h.
                let at = c.loop-step.invariant.ends s h in
                let goes = gone_on (registers_view w.act.new.registers) w.in-Ok-GoesOn.field-0-is
                (w.in-Ok-GoesOn.ensures.does at.0 at.1) in (
                  goes.s,
                  subst (λ r. HasDone c.args.machine.now.catalogue.now c.args.machine.now.parts.now
                      r goes.s) (sym w.run-is) goes.done,
                  (λ i. means c.args.machine.now
                      (code_of_steps (drop (c.loop-step.step-index + 1)
                      c.as_slice-step-items.result.now)) (w.index-is i) c.args.inside
                      (registers_view (w.registers-is i)) goes.s)
                      ∙ sym (act_follows c.args.machine.now _ c.loop-step.index c.args.inside
                      (registers_view c.loop-step.registers) at.0 c.loop-step-test.true
                      c.step-item.is w.in-Act.is goes.does)
                      ∙ at.2,
                );
            sound = subst (λ xs. AreSound c.args.machine.now.catalogue.now (registers_view xs))
                (sym w.registers-is) w.in-Ok-GoesOn.ensures.sound;
            worked = subst (λ r. HasWorked c.args.machine.now.most c.args.run.now r
                (c.match-step.index - c.args.at)) (sym w.run-is)
                (worked_act c.loop-step.invariant.worked w.act.ensures.work.visits
                w.act.ensures.work.work (omega
                (arith, w.index-is, c.loop-step.invariant.after)));
            placed = omega (arith, left, c.loop-step.invariant.placed, w.index-is);
            after = omega (arith, c.loop-step.invariant.after, w.index-is);
            deep = subst (λ l. scan_depth
                (code_of_steps (drop (c.loop-step.step-index + 1) c.as_slice-step-items.result.now))
                * c.args.machine.now.parts.now.registers ≤ l) (sym c.match-step.auto.frames)
                (subst (λ k. scan_depth k * c.args.machine.now.parts.now.registers
                ≤ length c.loop-step.frames) code c.loop-step.invariant.deep);
          })
      | walk-in-Scan+in_ok-scan-in-Scan w ↦
          (let code = next_scan c.as_slice-step-items.result.now c.loop-step.step-index
          c.step-item.result w.in-Scan.table w.in-Scan.target w.in-Scan.body
          c.loop-step-test.true c.step-item.is w.in-Scan.is in
          let left = ap code_size code in
          record {
            ends = λ s h.
                let at = c.loop-step.invariant.ends s h in
                let done = w.in_ok-scan-in-Scan.ensures.ends at.0 at.1 in
                let index : c.loop-step.index + (1 + w.size.result)
                ≡ c.loop-step.index + 1 + code_size w.in-Scan.body =
                omega (arith, w.size.ensures) in (
                  done.s,
                  subst (λ r. HasDone c.args.machine.now.catalogue.now c.args.machine.now.parts.now
                      r done.s) (sym w.run-is) done.done,
                  (λ i. means c.args.machine.now
                      (code_of_steps (drop (c.loop-step.step-index + 1)
                      c.as_slice-step-items.result.now)) (w.index-is i) c.args.inside
                      (registers_view (w.registers-is i)) done.s)
                      ∙ ap (λ n. means c.args.machine.now
                      (code_of_steps (drop (c.loop-step.step-index + 1)
                      c.as_slice-step-items.result.now)) n c.args.inside
                      (registers_view c.loop-step.registers) done.s) index
                      ∙ sym (scan_follows c.args.machine.now _ c.loop-step.index c.args.inside
                      (registers_view c.loop-step.registers) at.0 c.loop-step-test.true
                      c.step-item.is w.in-Scan.is done.is)
                      ∙ at.2,
                );
            sound = subst (λ xs. AreSound c.args.machine.now.catalogue.now (registers_view xs))
                (sym w.registers-is) c.loop-step.invariant.sound;
            worked = subst (λ r. HasWorked c.args.machine.now.most c.args.run.now r
                (c.match-step.index - c.args.at)) (sym w.run-is)
                (worked_more c.loop-step.invariant.worked w.in_ok-scan-in-Scan.ensures.worked
                (omega (arith, w.index-is, c.loop-step.invariant.after)));
            placed = omega (arith, left, c.loop-step.invariant.placed, w.index-is, w.size.ensures);
            after = omega (arith, c.loop-step.invariant.after, w.index-is);
            deep = subst (λ l. scan_depth
                (code_of_steps (drop (c.loop-step.step-index + 1) c.as_slice-step-items.result.now))
                * c.args.machine.now.parts.now.registers ≤ l) (sym c.match-step.auto.frames)
                (rest_deep w.in-Scan.table w.in-Scan.target c.args.machine.now.parts.now.registers
                (length c.loop-step.frames) w.in-Scan.body
                (code_of_steps (drop (c.loop-step.step-index + 1)
                c.as_slice-step-items.result.now))
                (subst (λ k. scan_depth k * c.args.machine.now.parts.now.registers
                ≤ length c.loop-step.frames) code c.loop-step.invariant.deep));
          })
    ]

pub walk-returns-clause-ends : goal.walk-returns-clause-ends
walk-returns-clause-ends t c = λ s h.
    let at = c.loop-step.invariant.ends s h in
    record {
      s = at.0;
      is = sym at.2 ∙ ap (λ k.
          means c.args.machine.now k c.loop-step.index c.args.inside
          (registers_view c.loop-step.registers) at.0)
          (ap code_of_steps (drop_all c.loop-step.step-index c.as_slice-step-items.result.now
          c.loop-step-test.false));
      done = at.1;
    }
