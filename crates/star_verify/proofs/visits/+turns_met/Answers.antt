use Rattle.std.proofs.Common.{◌≡◌, ◌≤◌, ◌<◌, ◌+◌, ◌*◌, ◌^◌, drop, sym, ap, subst, ◌∙◌, arith}
use Rattle.star_verify.proofs.{Common.{code_of_steps, code_size, next_act, next_scan, scan_depth, size_of, turns_met}, Turns.{inner, outer, often, scan_turns, scan_sum, scan_bound}, visits.+turns_met.Goals.{After-from, in-Act, in-Scan}}
use Rattle.star_verify.proofs.visits.+turns_met.Goals as goal

-- what is left begins with the scan, whose body is met no more often than the bound allows
at_scan : (t : _) (c : After-from t)
    → (code_size (code_of_steps (drop c.loop-step.step-index c.as_slice-step-items.result.now))
    ≡ 1 + code_size c.in-Scan.body
    + code_size (code_of_steps
    (drop (c.loop-step.step-index + 1) c.as_slice-step-items.result.now)))
    × (c.args.times * c.from.result * (2 ^ 32) ^ scan_depth c.in-Scan.body ≤ 2 ^ 96)
    × (c.args.times * c.from.result ≤ 2 ^ 96)
at_scan t c =
    let code = next_scan c.as_slice-step-items.result.now c.loop-step.step-index c.step-item.result
    c.in-Scan.table c.in-Scan.target c.in-Scan.body c.loop-step-test.true c.step-item.is
    c.in-Scan.is in
    let small : c.from.result < 2 ^ 32 = omega (arith, c.from.ensures, c.of.type_inv) in
    let deep = inner c.args.times c.from.result c.in-Scan.table c.in-Scan.target c.in-Scan.body _ _
    code small c.loop-step.invariant.deep in
    (ap code_size code, deep, often _ _ deep)

pub overflow_mul-turns : goal.overflow_mul-turns
overflow_mul-turns t c = omega (arith, (at_scan t (goal.at.overflow_mul-turns t c).After-from).2)

pub turns_met-requires : goal.turns_met-requires
turns_met-requires t c =
    let scan = at_scan t (goal.at.turns_met-requires t c).After-from in
    let all = ap code_size c.as_slice-step-items.ensures in (
      omega (arith, c.decreases, scan.0, all, c.loop-step.invariant.size),
      (omega (arith, c.requires.few, scan.0, all, c.loop-step.invariant.size), scan.1),
    )

pub overflow_add-total : goal.overflow_add-total
overflow_add-total t c =
    let scan = at_scan t (goal.at.overflow_add-total t c).After-from in
    let all = ap code_size c.as_slice-step-items.ensures in
    omega (
      arith,
      scan.2,
      c.turns_met.ensures.bound,
      c.requires.few,
      scan.0,
      all,
      c.loop-step.invariant.size,
    )

pub overflow_add-total-in-Scan : goal.overflow_add-total-in-Scan
overflow_add-total-in-Scan t c =
    let scan = at_scan t (goal.at.overflow_add-total-in-Scan t c).After-from in
    let all = ap code_size c.as_slice-step-items.ensures in
    omega (
      arith,
      scan.2,
      c.turns_met.ensures.bound,
      c.requires.few,
      scan.0,
      all,
      c.loop-step.invariant.bound,
    )

pub loop-step-preserved : goal.loop-step-preserved
loop-step-preserved t c =
    elim c.match-step.branch [
      | in-Act w ↦
          (let code = next_act c.as_slice-step-items.result.now c.loop-step.step-index
          c.step-item.result w.in-Act.field-0 c.loop-step-test.true c.step-item.is
          w.in-Act.is in
          let left = ap code_size code in
          let tm = turns_met (size_of c.args.sizes.now) c.args.times in
          record {
            sum = ap (λ n. n + tm (code_of_steps
                (drop (c.loop-step.step-index + 1) c.as_slice-step-items.result.now))) w.total-is
                ∙ ap (λ k. c.loop-step.total + tm k) (sym code) ∙ c.loop-step.invariant.sum;
            bound = omega (arith, left, w.total-is, c.loop-step.invariant.bound);
            size = omega (arith, left, c.loop-step.invariant.size);
            deep = subst (λ k. c.args.times * (2 ^ 32) ^ scan_depth k ≤ 2 ^ 96) code
                c.loop-step.invariant.deep;
          })
      | in-Scan w ↦
          (let code = next_scan c.as_slice-step-items.result.now c.loop-step.step-index
          c.step-item.result w.in-Scan.table w.in-Scan.target w.in-Scan.body
          c.loop-step-test.true c.step-item.is w.in-Scan.is in
          let left = ap code_size code in
          let small : w.from.result < 2 ^ 32 = omega (arith, w.from.ensures, w.of.type_inv) in
          let deep = inner c.args.times w.from.result w.in-Scan.table w.in-Scan.target
          w.in-Scan.body _ _ code small c.loop-step.invariant.deep in
          record {
            sum = scan_sum _ _ _ _ _ _ _ w.total-is
                (scan_turns (size_of c.args.sizes.now) c.args.times w.from.result w.turns_met.result
                w.in-Scan.table w.in-Scan.target w.in-Scan.body _ _ code
                (w.from.ensures ∙ w.of.ensures) w.turns_met.ensures.turns)
                c.loop-step.invariant.sum;
            bound = scan_bound _ _ _ _ _ _ _ _ w.total-is left (often _ _ deep)
                w.turns_met.ensures.bound c.loop-step.invariant.bound;
            size = omega (arith, left, c.loop-step.invariant.size);
            deep = outer c.args.times w.in-Scan.table w.in-Scan.target w.in-Scan.body _ _ code
                c.loop-step.invariant.deep;
          })
    ]
