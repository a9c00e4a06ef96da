use Rattle.std.proofs.Common.{refl}
use Rattle.star_reader.proofs.{PassedOn.passed_on, PieceSteps.part_faulty, PieceSteps.part_on}
use Rattle.star_reader.proofs.progress.Progress.end_part.Goals as goal

pub returns-in_err-end_line : goal.returns-in_err-end_line
returns-in_err-end_line c = λ table parts text h.
    passed_on _ _ _
    (c.in_err-end_line.ensures table h.carried h.stands h.inner h.of_table h.few)
    c.from_residual.ensures.1
    (part_faulty table c.args.most parts text c.args.self.now c.args.columns.now _ h)

pub returns : goal.returns
returns c = λ table parts text h.
    part_on table c.args.most parts text c.args.self.now c.end_line.new.self _
    c.args.columns.now c.end_line.new.columns h
    (c.in_ok-end_line.ensures table h.carried h.stands h.inner h.of_table h.few) refl refl refl
