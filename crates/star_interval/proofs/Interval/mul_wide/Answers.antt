-- The bounds at either end of this interval are those of two corners.
use Rattle.std.proofs.Common.{◌≡◌, ◌∙◌, ◌*ℤ◌, rules}
use Rattle.star_interval.proofs.Interval.mul_wide.Goals as goal

pub returns : goal.returns
returns c = search rules
