use Rattle.star_reader.proofs.line.add_line.Goals as goal

pub line_fault-requires-clause-faulty : goal.line_fault-requires-clause-faulty
line_fault-requires-clause-faulty c =
    rw c.push_line.ensures.kinds
    (rw c.if-branch.false at (c.in_ok-push_line.ensures.pushed c.args.at_row))

pub returns-then-branch : goal.returns-then-branch
returns-then-branch c = rw c.if-branch.true at (c.in_ok-push_line.ensures.pushed c.args.at_row)
