use Rattle.std.proofs.Common.{length}
use Rattle.star_merger.proofs.spelled.+is_spelled_row.Given as goal

abbrev pub decreases-is_spelled_row : goal.decreases-is_spelled_row
decreases-is_spelled_row l = length l.columns.now
