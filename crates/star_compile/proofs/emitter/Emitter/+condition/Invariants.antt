-- The comparisons still to come, and the operator between two parts.
use Rattle.std.proofs.Common.{◌+◌, ◌*◌}
use Rattle.star_query.specs.Limits.{comparisons_of}
use Rattle.star_plan.specs.Views.{row_condition_view}
use Rattle.star_compile.proofs.emitter.Emitter.+condition.Given as goal

abbrev pub decreases-condition : goal.decreases-condition
decreases-condition l = 2 * comparisons_of (row_condition_view l.condition.now) + 1

abbrev pub decreases-connective : goal.decreases-connective
decreases-connective l = 2 * comparisons_of (row_condition_view l.left.now)
    + 2 * comparisons_of (row_condition_view l.right.now)
