use Rattle.star_cli.specs.Commands.{task_answered, task_unread}
use Rattle.star_cli.proofs.commands.answer_task.Goals as goal

pub answer_over-requires : goal.answer_over-requires
answer_over-requires g c =
    let (texts, tables, file, are) = c.in-Ok.ensures in
    (texts, are)

pub returns-in-Ok : goal.returns-in-Ok
returns-in-Ok g c = λ rows.
    let (texts, tables, file, are) = c.in-Ok.ensures in
    task_answered texts c.in-Ok.read.file.items tables file (c.answer_over.ensures texts are rows)

pub returns-in-Err : goal.returns-in-Err
returns-in-Err g c = λ rows. task_unread c.in-Err.failure c.in-Err.ensures c.print.ensures
