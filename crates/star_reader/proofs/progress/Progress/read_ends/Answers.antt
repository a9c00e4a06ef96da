use Rattle.star_reader.proofs.{PassedOn.passed_on, PieceSteps.line_faulty, PieceSteps.lines_faulty, PieceSteps.lines_on}
use Rattle.star_reader.proofs.progress.Progress.read_ends.Goals as goal

pub returns-in_err-end_line : goal.returns-in_err-end_line
returns-in_err-end_line c = λ table parts text h begun closed.
    passed_on _ _ _
    (c.in_err-end_line.ensures table h.carried h.stands h.inner h.of_table h.few)
    c.from_residual.ensures.1
    (line_faulty table c.args.most parts text c.args.self.now c.args.columns.now c.args.lines.now _
    h begun)

pub returns-in_err-rows : goal.returns-in_err-rows
returns-in_err-rows c = λ table parts text h begun closed.
    let e = c.in_ok-end_line.ensures table h.carried h.stands h.inner h.of_table h.few in
    passed_on _ _ _ (c.in_err-rows.ensures table begun e.rows.of_table e.few)
    c.from_residual-in_err-rows.ensures.1
    (lines_faulty table c.args.most parts text c.args.self.now c.end_line.new.self
    c.args.columns.now c.end_line.new.columns c.args.lines.now _ h e begun closed)

pub returns : goal.returns
returns c = λ table parts text h begun closed.
    let e = c.in_ok-end_line.ensures table h.carried h.stands h.inner h.of_table h.few in
    lines_on table c.args.most parts text c.args.self.now c.end_line.new.self _
    c.args.columns.now c.end_line.new.columns c.read_lines.new.columns c.args.lines.now h e begun
    closed (c.in_ok-rows.ensures table begun e.rows.of_table e.few) e.fresh e.behind
