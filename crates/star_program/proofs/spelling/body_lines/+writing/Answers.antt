use Rattle.std.proofs.{Common.◌++◌, Common.◌∙◌, Common.ap, lemmas.Option.slice_get-get_or, lemmas.Result.on_ok_weaker}
use Rattle.star_program.proofs.{Text.WrittenLemmas.act_text, Text.WrittenLemmas.all_steps, Text.WrittenLemmas.scan_text, Text.WrittenLemmas.step_more, Text.Depths.rest_nested, Text.Depths.step_small}
use Rattle.star_program.proofs.spelling.body_lines.+writing.Goals as goal

pub push_body-loop-step-preserved : goal.push_body-loop-step-preserved
push_body-loop-step-preserved t c =
    let at = slice_get-get_or c.as_slice-step-items.result.now c.loop-step.step-index
    c.step-item.result c.loop-step-test.true in
    let there = rw (← c.step-item.is) at at in
    record {
      lines = rw c.in_ok-push_step.ensures
          (step_more c.args.depth c.as_slice-step-items.result.now c.loop-step.step-index
          c.step-item.result _ c.loop-step.out.items there c.loop-step.invariant.lines);
      size = (step_small _ c.as_slice-step-items.result.now c.loop-step.step-index
          c.step-item.result there c.loop-step.invariant.size).1;
      depth = rest_nested c.args.depth c.as_slice-step-items.result.now c.loop-step.step-index
          c.step-item.result there c.loop-step.invariant.depth;
    }

pub push_body-returns : goal.push_body-returns
push_body-returns t c = all_steps c.args.depth c.as_slice-step-items.result.now
    c.loop-step.step-index _ c.loop-step.out.items c.loop-step-test.false
    c.loop-step.invariant.lines

pub push_step-returns-in-Act : goal.push_step-returns-in-Act
push_step-returns-in-Act t c =
    rw c.in-Act.is (on_ok_weaker c.push_op_line.result
    (λ e. e ∙ ap (λ x. c.args.out.now.items ++ x) (act_text c.args.depth c.in-Act.op))
    c.push_op_line.ensures)

pub push_step-returns-in_ok-push_body-in-Scan : goal.push_step-returns-in_ok-push_body-in-Scan
push_step-returns-in_ok-push_body-in-Scan t c =
    let scan = c.in_ok-push_scan_line-in-Scan.ensures in
    let body = c.in_ok-push_body-in-Scan.ensures in
    rw c.in-Scan.is (on_ok_weaker c.push_end_line.result
    (λ e. e ∙ rw (body, scan)
    (scan_text c.args.depth c.in-Scan.table c.in-Scan.target c.in-Scan.body
    c.args.out.now.items)) c.push_end_line.ensures)
