use Rattle.std.proofs.Common.{◌<◌, ◌+◌, false, length, drop, get_or, ap, sym, ◌∙◌, arith}
use Rattle.star_verify.proofs.{Common.{code_of_steps, code_puts_to, code_size, drop_all, next_act, next_scan, ◌||◌}, Marks.{marked_more, or_none}, open_groups.+mark_puts.Goals.{in-Act, in-Scan}}
use Rattle.star_verify.proofs.open_groups.+mark_puts.Goals as goal

pub loop-step-preserved : goal.loop-step-preserved
loop-step-preserved t c =
    elim c.match-step.branch [
      | in-Act w ↦
          (let code = next_act c.args.steps.now c.loop-step.step-index c.step-item.result
          w.in-Act.op c.loop-step-test.true c.step-item.is w.in-Act.is in
          let left = ap code_size code in
          record {
            marked = λ g lt.
                let within : g < length c.loop-step.pending =
                omega (arith, c.loop-step.auto.pending, lt) in
                ap (λ xs. get_or xs g false
                || code_puts_to g (code_of_steps
                (drop (c.loop-step.step-index + 1) c.args.steps.now))) w.pending-is
                ∙ marked_more _ _ _ _ _ _ (w.mark_op.ensures.marked g within)
                (ap (λ k. code_puts_to g k) code) (c.loop-step.invariant.marked g lt);
            size = omega (arith, left, c.loop-step.invariant.size);
          })
      | in-Scan w ↦
          (let code = next_scan c.args.steps.now c.loop-step.step-index c.step-item.result
          w.in-Scan.table w.in-Scan.target w.in-Scan.body c.loop-step-test.true c.step-item.is
          w.in-Scan.is in
          let left = ap code_size code in
          record {
            marked = λ g lt.
                let within : g < length c.loop-step.pending =
                omega (arith, c.loop-step.auto.pending, lt) in
                ap (λ xs. get_or xs g false
                || code_puts_to g (code_of_steps
                (drop (c.loop-step.step-index + 1) c.args.steps.now))) w.pending-is
                ∙ marked_more _ _ _ _ _ _
                (w.mark_puts.ensures.marked g within
                ∙ ap (λ k. get_or c.loop-step.pending g false || code_puts_to g k)
                w.as_slice.ensures)
                (ap (λ k. code_puts_to g k) code) (c.loop-step.invariant.marked g lt);
            size = omega (arith, left, c.loop-step.invariant.size);
          })
    ]

pub mark_puts-requires : goal.mark_puts-requires
mark_puts-requires t c =
    let code = next_scan c.args.steps.now c.loop-step.step-index c.step-item.result c.in-Scan.table
    c.in-Scan.target c.in-Scan.body c.loop-step-test.true c.step-item.is c.in-Scan.is in
    let left = ap code_size code in
    let inner = ap code_size c.as_slice.ensures in
    (omega (arith, c.decreases, left, inner, c.loop-step.invariant.size), tt)

pub returns : goal.returns
returns t c = record {
  marked = λ g lt.
      sym (or_none (get_or c.loop-step.pending g false))
      ∙ sym (ap (λ steps. get_or c.loop-step.pending g false
      || code_puts_to g (code_of_steps steps))
      (drop_all c.loop-step.step-index c.args.steps.now c.loop-step-test.false))
      ∙ c.loop-step.invariant.marked g lt;
  len = c.loop-step.auto.pending;
}
