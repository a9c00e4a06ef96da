use Rattle.std.proofs.Common.{◌*◌, ◌+◌, length}
use Rattle.star_verify.proofs.rows.Groupings.+rows_behind.Given as goal

abbrev pub decreases-rows_behind : goal.decreases-rows_behind
decreases-rows_behind l = 2 * length l.keys.now

abbrev pub decreases-rows_if : goal.decreases-rows_if
decreases-rows_if l = 2 * length l.keys.now + 1
