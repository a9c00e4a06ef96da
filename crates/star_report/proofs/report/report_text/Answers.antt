use Rattle.std.proofs.Common.{◌≤◌, length, arith}
use Rattle.star_report.{specs.Report.{report_text, row_text}, proofs.Parts.all_parts}
use Rattle.star_report.proofs.report.report_text.Goals as goal

pub returns : goal.returns
unfolding report_text
returns c =
    let rows = c.args.outcome.now.rows in
    let past : length rows ≤ c.loop-number.number =
    omega (arith, c.loop-number-test.false, c.len-number-end.ensures) in
    all_parts row_text rows c.loop-number.number _ c.loop-number.text.items past
    c.loop-number.invariant
