use Rattle.std.proofs.Common.{rules}
use Rattle.star_report.specs.Report.{cell_text}
use Rattle.star_report.proofs.report.KeptCellField.push_to.Goals as goal

pub returns-in-Null : goal.returns-in-Null
unfolding cell_text
returns-in-Null c = search rules
