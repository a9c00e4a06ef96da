-- The operands still to come, and the operator between two parts.
use Rattle.std.proofs.Common.{◌+◌, ◌*◌}
use Rattle.star_query.specs.Limits.{operands_of}
use Rattle.star_plan.specs.Views.{column_expression_view}
use Rattle.star_compile.proofs.emitter.Emitter.+expression.Given as goal

abbrev pub decreases-expression : goal.decreases-expression
decreases-expression l = 2 * operands_of (column_expression_view l.expression.now) + 1

abbrev pub decreases-arithmetic : goal.decreases-arithmetic
decreases-arithmetic l = 2 * operands_of (column_expression_view l.left.now)
    + 2 * operands_of (column_expression_view l.right.now)
