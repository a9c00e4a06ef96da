use Rattle.std.proofs.Common.{FitsSigned, w64, to_z-of_z, rules}
use Rattle.star_column.proofs.Coded.{slice_get-codes_of}
use Rattle.star_column.proofs.text.TextColumnColumnData.at.Goals as goal

pub returns : goal.returns
returns c =
    let fits : FitsSigned w64 c.from.result = search rules in
    rw (to_z-of_z, c.from.ensures)
    (slice_get-codes_of c.args.self.now c.args.row c.code_at.result c.code_at.ensures.stands
    c.code_at.ensures.within)
