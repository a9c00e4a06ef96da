use Rattle.std.proofs.Common.{◌∙◌, sym}
use Rattle.star_program.proofs.Text.WrittenLemmas.{chained, parts_text}
use Rattle.star_program.proofs.spelling.program_lines.write_parts.Goals as goal

pub returns : goal.returns
returns c =
    chained _ _ _ _ _ _ _ _ _ _ _ _
    (rw c.new-out.ensures.items at c.in_ok-push_head.ensures)
    (rw c.as_slice.ensures at c.in_ok-push_groups.ensures)
    c.in_ok-push_body.ensures
    c.in_ok-push_report.ensures
    (rw c.as_slice-2.ensures at c.in_ok-push_each.ensures)
    (rw c.as_slice-3.ensures at c.in_ok-push_each-2.ensures)
    ∙ sym (parts_text c.args.parts.now)
