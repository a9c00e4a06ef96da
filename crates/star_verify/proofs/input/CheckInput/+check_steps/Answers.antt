use Rattle.std.proofs.Common.{◌≡◌, Err, None, Ok, ◌+◌, ◌*◌, ◌<◌, ◌≤◌, ◌^◌, ap, arith, length, refl, rules, sym, subst, ◌∙◌}
use Rattle.star_verify.proofs.{Common.{AreRecorded, Each, IsFirst, at_end, before, code_of_steps, code_size, err_from_is_err_and, first_reason, flag_at, in_scan, known_in, open_with, scan_reason, size_of, turns_met}, CheckingSteps.{act_walked, all_checked, code_first, opened_in, one_walked, others, scan_entered, scan_walked, step_refused}}
use Rattle.star_verify.proofs.input.CheckInput.+check_steps.Goals as goal

pub scan-returns-clause-checked : goal.scan-returns-clause-checked
scan-returns-clause-checked t c = λ w x pending facts keeps placed marked.
    let parts = c.args.self.now.parts.now in
    let inner = in_scan w x c.args.table c.args.target in
    let size = c.from.ensures ∙ c.of.ensures ∙ facts.sizes c.args.table in
    let none = c.in_default.ensures.reason x
    (ap flag_at c.deref.ensures.value ∙ keeps.earlier.written) in
    let walked = subst (λ k. (first_reason w parts pending inner (c.args.position.at + 1) k ≡ None)
    × AreRecorded parts c.check_steps.new.state (at_end w parts inner k)) c.as_slice.ensures
    (c.in_ok-next.ensures.checked w inner pending facts (c.enter.ensures.kept w parts x keeps)
    (record { inside = refl; met = λ i. placed.met i * sym size i }) marked) in
    scan_entered (Ok c.in_ok-next.next) c.args.position.at
    (scan_reason parts x c.args.target) _ _ none (
      walked.0,
      record {
        known = ap known_in (c.in_ok-registers.ensures ∙ c.deref-2.ensures.value) ∙ keeps.known;
        earlier = record {
          written = walked.1.written;
          shares = walked.1.shares;
          keys = walked.1.keys;
        };
      },
    )

pub scan-returns-in_err-next-clause-checked : goal.scan-returns-in_err-next-clause-checked
scan-returns-in_err-next-clause-checked t c = λ w x pending facts keeps placed marked.
    let parts = c.args.self.now.parts.now in
    let inner = in_scan w x c.args.table c.args.target in
    let size = c.from.ensures ∙ c.of.ensures ∙ facts.sizes c.args.table in
    let none = c.in_default.ensures.reason x
    (ap flag_at c.deref.ensures.value ∙ keeps.earlier.written) in
    let refusal = c.in_err-next.field-0.0 in
    let stopped = subst (λ k.
    IsFirst refusal (first_reason w parts pending inner (c.args.position.at + 1) k))
    c.as_slice.ensures
    (c.in_err-next.ensures.checked w inner pending facts (c.enter.ensures.kept w parts x keeps)
    (record { inside = refl; met = λ i. placed.met i * sym size i }) marked) in
    let p = err_from_is_err_and c.from_residual-in_err-next.result
    c.from_residual-in_err-next.ensures.1 in
    rw (p.1, p.2)
    (scan_entered (Err refusal) c.args.position.at (scan_reason parts x c.args.target) _ (Unit {0})
    none stopped)

pub check_steps-check_step-requires : goal.check_steps-check_step-requires
check_steps-check_step-requires t c =
    let left = c.loop-left.left.now in
    let step = c.step-item.result in
    let code = code_first left step c.in-len1-up.len_at_least c.step-item.is in
    let size : code_size (code_of_steps left)
    ≡ code_size (before step (code_of_steps (others left))) = ap code_size code in
    let kept = c.loop-left.invariant in
    let few : c.loop-left.at + code_size (before step (code_of_steps (others left))) ≤ 4097 =
    omega (arith, size, kept.size, c.requires.size) in
    let turns = subst (λ code.
    turns_met (size_of c.args.self.now.facts.now.sizes) c.args.position.met code ≤ 10 ^ 15) code
    kept.turns in
    let fewer : 3 * code_size (before step (code_of_steps (others left)))
    < 3 * code_size (code_of_steps c.args.steps.now) + 1 =
    omega (arith, size, kept.size, kept.past) in
    (omega (arith, fewer, c.decreases), (few, (turns, kept.ready)))

pub check_steps-returns-in_err-at-clause-checked : goal.check_steps-returns-in_err-at-clause-checked
check_steps-returns-in_err-at-clause-checked t c = λ w x pending facts keeps placed marked.
    let p = err_from_is_err_and c.from_residual.result c.from_residual.ensures.1 in
    rw (p.1, p.2)
    (step_refused _ c.loop-left.state c.loop-left.at c.loop-left.left.now c.step-item.result
    c.in-len1-up.len_at_least c.step-item.is
    c.loop-left.invariant _ c.in_err-at.ensures.checked w x pending facts keeps placed marked)

pub check_steps-loop-left-preserved : goal.check_steps-loop-left-preserved
check_steps-loop-left-preserved t c =
    one_walked _ c.loop-left.state c.loop-left.at c.loop-left.left.now c.step-item.result
    c.in-len1-up.len_at_least c.step-item.is
    c.loop-left.invariant c.check_step.new.state c.in_ok-at.at
    c.in_ok-at.ensures.checked c.in_ok-at.ensures.next c.in_ok-at.ensures.sized
    c.in_ok-at.ensures.few

pub check_steps-returns-clause-checked : goal.check_steps-returns-clause-checked
check_steps-returns-clause-checked t c =
    all_checked _ c.loop-left.state c.loop-left.at c.loop-left.left.now c.in_default.len_below
    c.loop-left.invariant

pub check_step-returns-in_ok-check_instruction-in-Act-clause-checked :
    goal.check_step-returns-in_ok-check_instruction-in-Act-clause-checked
check_step-returns-in_ok-check_instruction-in-Act-clause-checked t c =
    λ w x pending facts keeps placed marked.
    let checked = c.in_ok-check_instruction-in-Act.ensures.checked w x pending facts keeps placed
    marked in
    act_walked w c.args.self.now.parts.now pending x c.args.position.at c.args.step.now
    (code_of_steps c.args.rest.now)
    c.check_instruction.new.state c.in-Act.op c.in-Act.is checked.0 checked.1

pub check_step-returns-in-Scan-clause-checked : goal.check_step-returns-in-Scan-clause-checked
check_step-returns-in-Scan-clause-checked t c = λ w x pending facts keeps placed marked.
    let parts = c.args.self.now.parts.now in
    let rest = code_of_steps c.args.rest.now in
    let inside = open_with pending (Each c.in-Scan.table c.in-Scan.target c.in-Scan.body rest) in
    scan_walked w parts pending x c.args.position.at c.args.step.now rest
    c.scan.new.state c.scan.result c.in-Scan.table c.in-Scan.target c.in-Scan.body c.in-Scan.is
    (c.scan.ensures.checked w x inside facts keeps
    (record { inside = placed.inside; met = placed.met })
    (λ g there.
    let few : g < length c.args.position.pending = search rules in
    opened_in g pending c.in-Scan.table c.in-Scan.target c.in-Scan.body rest
    (code_of_steps c.as_slice.result.now)
    (flag_at c.args.position.pending g) (flag_at c.mark_puts.new.pending g)
    (flag_at c.mark_puts-in-Scan.new.pending g)
    (c.mark_puts-in-Scan.ensures.marked g (omega (arith, few, c.mark_puts.ensures.len)))
    (c.mark_puts.ensures.marked g few) c.as_slice.ensures (marked g there)))
