use Rattle.star_program.proofs.Text.PassedLines.{end_opened, line_passed, line_refused}
use Rattle.star_program.proofs.spelling.parsing.take_statement.Goals as goal

pub add-requires : goal.add-requires
add-requires c = end_opened c.args.state c.args.draft.now c.args.line c.args.text.now
    c.in-Ok.statement c.in-Ok.next c.requires.at c.in-Ok.ensures.0 c.in-Ok.ensures.1

pub returns-in_ok-add-in-Ok : goal.returns-in_ok-add-in-Ok
returns-in_ok-add-in-Ok c =
    line_passed c.args.state c.args.draft.now c.args.line c.args.text.now c.in-Ok.statement
    c.in-Ok.next c.add.new.self c.requires.filled c.requires.at c.in-Ok.ensures.0
    c.in-Ok.ensures.1
    c.in_ok-add-in-Ok.ensures

pub returns-in-Err : goal.returns-in-Err
returns-in-Err c = line_refused c.args.state c.args.line c.args.text.now c.in-Err.fault
    c.requires.filled c.in-Err.ensures
