use Rattle.std.proofs.Common.{rules}
use Rattle.star_trial.proofs.compute.is_within.Goals as goal

pub returns-then-is_le : goal.returns-then-is_le
returns-then-is_le c = search rules
