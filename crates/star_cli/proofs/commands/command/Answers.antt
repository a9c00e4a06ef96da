use Rattle.star_cli.specs.Commands.{a_merge, a_session, an_answer, no_command, some_partials, some_reports}
use Rattle.star_cli.proofs.commands.command.Goals as goal

pub returns-in-Err : goal.returns-in-Err
returns-in-Err g c = no_command c.in-Err.fault c.in-Err.ensures c.print.ensures

pub returns-in-Answer : goal.returns-in-Answer
returns-in-Answer g c =
    let asked = rw c.in-Answer.is at c.in-Ok.ensures in
    an_answer c.in-Answer.task asked (c.answer_task.ensures asked.rows)

pub returns-in-Session : goal.returns-in-Session
returns-in-Session g c =
    a_session c.in-Session.folder (rw c.in-Session.is at c.in-Ok.ensures) c.start_session.ensures

pub returns-in-Reports : goal.returns-in-Reports
returns-in-Reports g c =
    some_reports c.in-Reports.asked (rw c.in-Reports.is at c.in-Ok.ensures) c.make_reports.ensures

pub returns-in-Partial : goal.returns-in-Partial
returns-in-Partial g c = some_partials c.in-Partial.asked (rw c.in-Partial.is at c.in-Ok.ensures)

pub returns-in-Merge : goal.returns-in-Merge
returns-in-Merge g c = a_merge c.in-Merge.asked (rw c.in-Merge.is at c.in-Ok.ensures)
