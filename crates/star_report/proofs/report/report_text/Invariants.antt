use Rattle.star_report.{specs.Report.{line_text, row_text}, proofs.Parts.HasGrown}
use Rattle.star_report.proofs.report.report_text.Given as goal

abbrev pub invariant-loop-number : goal.invariant-loop-number
invariant-loop-number l =
    HasGrown row_text l.outcome.rows l.number (line_text l.outcome.names) l.text.items
