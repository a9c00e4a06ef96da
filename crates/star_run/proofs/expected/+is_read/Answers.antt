use Rattle.std.proofs.Common.{ap, arith}
use Rattle.star_run.proofs.{Common.code_size, Common.next_act, Common.next_scan, expected.+is_read.Goals.in-Act, expected.+is_read.Goals.in-Scan}
use Rattle.star_run.proofs.expected.+is_read.Goals as goal

pub loop-step-preserved : goal.loop-step-preserved
loop-step-preserved t c =
    elim c.match-step.branch [
      | in-Act w ↦
          (let left = ap code_size
          (next_act c.args.steps.now c.loop-step.step-index c.step-item.result w.in-Act.op
          c.loop-step-test.true c.step-item.is w.in-Act.is) in
          omega (arith, left, c.loop-step.invariant))
      | in-Scan w ↦
          (let left = ap code_size
          (next_scan c.args.steps.now c.loop-step.step-index c.step-item.result w.in-Scan.table
          w.in-Scan.target w.in-Scan.body c.loop-step-test.true c.step-item.is w.in-Scan.is) in
          omega (arith, left, c.loop-step.invariant))
    ]

pub is_read-read-requires : goal.is_read-read-requires
is_read-read-requires t c =
    let left = ap code_size (next_scan c.args.steps.now c.loop-step.step-index c.step-item.result
    c.in-Scan.table c.in-Scan.target c.in-Scan.body c.loop-step-test.true c.step-item.is
    c.in-Scan.is) in
    let inner = ap code_size c.as_slice.ensures in
    (omega (arith, c.decreases, left, inner, c.loop-step.invariant), tt)
