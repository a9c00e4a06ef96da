use Rattle.std.proofs.Common.{arith, rules}
use Rattle.star_plan.specs.Views.{row_condition_view}
use Rattle.star_compile_laws.specs.Compiled.{condition_code}
use Rattle.star_compile.proofs.Emits.{some_comparison, room_for_right}
use Rattle.star_compile.proofs.emitter.Emitter.+condition.Goals as goal

pub connective-condition-requires : goal.connective-condition-requires
connective-condition-requires t c = (
  omega (arith, some_comparison (row_condition_view c.args.right.now)),
  (search rules, c.requires.left),
)

pub connective-condition-requires-2 : goal.connective-condition-requires-2
connective-condition-requires-2 t c = (
  omega (arith, some_comparison (row_condition_view c.args.left.now)),
  (
    room_for_right (condition_code c.args.joins.now (row_condition_view c.args.right.now))
        c.args.operator c.in_ok-left.ensures.written c.requires.room,
    c.requires.right,
  ),
)
