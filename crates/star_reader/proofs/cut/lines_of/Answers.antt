use Rattle.star_reader.proofs.CutIndexes.{cut_is}
use Rattle.star_reader.proofs.cut.lines_of.Goals as goal

pub returns : goal.returns
returns c =
    let (there, head, starts) = c.in_ok-first.ensures in
    cut_is c.args.piece.now c.in_ok-first.first c.behind_last_end-behind.result there head starts
    c.behind_last_end-behind.ensures.within c.behind_last_end-behind.ensures.tail
    c.behind_last_end-behind.ensures.end
