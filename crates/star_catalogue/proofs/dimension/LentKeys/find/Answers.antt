use Rattle.std.proofs.Common.{FitsSigned, rules, to_z-of_z, w64}
use Rattle.star_catalogue.proofs.dimension.LentKeys.find.Goals as goal

pub returns-in-Hashed : goal.returns-in-Hashed
returns-in-Hashed c =
    let fits : FitsSigned w64 c.args.key = search rules in
    let found = rw (to_z-of_z fits) at c.find.ensures in
    rw c.in-Hashed.is found
