use Rattle.std.proofs.Common.{rules}
use Rattle.star_verify.proofs.operations.check_source.Goals as goal

pub returns-then-is_open : goal.returns-then-is_open
returns-then-is_open c = search rules
