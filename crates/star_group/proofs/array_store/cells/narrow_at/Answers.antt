use Rattle.star_group.proofs.{Common.{FitsSigned, get_or, pos, rules, w64}, ArrayCells.is_narrow}
use Rattle.star_group.proofs.array_store.cells.narrow_at.Goals as goal

pub returns : goal.returns
returns c =
    let fits : FitsSigned w64 (get_or c.args.words.now c.args.at (pos 0)) = search rules in
    is_narrow (get_or c.args.words.now c.args.at (pos 0)) fits
