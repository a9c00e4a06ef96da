use Rattle.std.proofs.Common.{rules}
use Rattle.star_common.proofs.quoting.push_doubled.Goals as goal

pub returns-then-byte-eq39 : goal.returns-then-byte-eq39
returns-then-byte-eq39 c = search rules
