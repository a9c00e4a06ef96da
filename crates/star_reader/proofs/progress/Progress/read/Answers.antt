use Rattle.std.proofs.Common.{refl}
use Rattle.star_reader.{specs.Private.Cut.{EndsInLineEnd, IsBegun}, proofs.PassedOn.passed_on, proofs.PieceSteps.{piece_faulty, piece_on}}
use Rattle.star_reader.proofs.progress.Progress.read.Goals as goal

pub carry-requires-2 : goal.carry-requires-2
carry-requires-2 c = rw c.head.ensures c.in-Some.ensures.head

pub carry-requires-3 : goal.carry-requires-3
carry-requires-3 c = rw c.tail.ensures c.in-Some.ensures.tail

pub returns-in_err-read_ends : goal.returns-in_err-read_ends
returns-in_err-read_ends c = λ table parts text h.
    let headed = c.in_ok-carry-2.ensures table c.args.most parts text c.args.columns.now refl h in
    let begun : IsBegun c.lines.result.now = rw c.lines.ensures c.in-Some.ensures.begun in
    let ended : EndsInLineEnd c.lines.result.now = rw c.lines.ensures c.in-Some.ensures.ended in
    passed_on _ _ _
    (rw (c.head.ensures, c.lines.ensures)
    at (c.in_err-read_ends.ensures table parts _ headed begun ended))
    c.from_residual-in_err-read_ends.ensures.1
    (piece_faulty table c.args.most parts text c.args.piece.now c.in-Some.cut.first
    c.in-Some.cut.behind _ c.in-Some.ensures)

pub returns : goal.returns
returns c = λ table parts text h.
    let headed = c.in_ok-carry-2.ensures table c.args.most parts text c.args.columns.now refl h in
    let begun : IsBegun c.lines.result.now = rw c.lines.ensures c.in-Some.ensures.begun in
    let ended : EndsInLineEnd c.lines.result.now = rw c.lines.ensures c.in-Some.ensures.ended in
    let ends = c.in_ok-read_ends.ensures table parts _ headed begun ended in
    let tailed = c.in_ok-carry-3.ensures table c.args.most parts _ c.read_ends.new.columns
    c.read_ends.auto.columns ends in
    piece_on table c.args.most parts c.carry-3.new.self c.read_ends.new.columns text
    c.args.piece.now
    c.in-Some.cut.first c.in-Some.cut.behind c.in-Some.ensures
    (rw (c.head.ensures, c.lines.ensures, c.tail.ensures) at tailed)
