use Rattle.std.proofs.Common.{FitsSigned, w64, to_z-of_z, rules}
use Rattle.star_column.proofs.packed.PackedColumnColumnData.at.Goals as goal

pub returns : goal.returns
returns c =
    let fits : FitsSigned w64 c.at.result = search rules in
    rw (to_z-of_z fits) (rw c.view.ensures at c.at.ensures)
