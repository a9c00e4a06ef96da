use Rattle.std.proofs.Common.{rules}
use Rattle.star_verify.proofs.totals.total_range.Goals as goal

pub returns-in-Sum : goal.returns-in-Sum
returns-in-Sum c = search rules
