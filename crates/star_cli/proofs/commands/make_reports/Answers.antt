use Rattle.star_cli.specs.Commands.{reports_unready}
use Rattle.star_cli.proofs.commands.make_reports.Goals as goal

pub returns-in-Ok : goal.returns-in-Ok
returns-in-Ok g c = c.report_read.ensures (rw c.as_slice.ensures.value c.in-Ok.ensures.read)

pub returns-in-Err : goal.returns-in-Err
returns-in-Err g c = reports_unready c.in-Err.failure c.in-Err.ensures.refused c.print.ensures
