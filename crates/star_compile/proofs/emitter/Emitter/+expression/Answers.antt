use Rattle.std.proofs.Common.{arith, rules}
use Rattle.star_plan.specs.Views.{column_expression_view}
use Rattle.star_compile_laws.specs.Compiled.{expression_code}
use Rattle.star_compile.proofs.Emits.{some_operand, room_for_right}
use Rattle.star_compile.proofs.emitter.Emitter.+expression.Goals as goal

pub arithmetic-expression-requires : goal.arithmetic-expression-requires
arithmetic-expression-requires t c =
    (omega (arith, some_operand (column_expression_view c.args.right.now)), search rules)

pub arithmetic-expression-requires-2 : goal.arithmetic-expression-requires-2
arithmetic-expression-requires-2 t c = (
  omega (arith, some_operand (column_expression_view c.args.left.now)),
  room_for_right (expression_code c.args.joins.now (column_expression_view c.args.right.now))
      c.args.operator c.in_ok-left.ensures.written c.requires.room,
)

pub expression-returns-in-Add : goal.expression-returns-in-Add
expression-returns-in-Add t c = record { written = rw c.in-Add.is (search rules) }

pub expression-returns-in-Sub : goal.expression-returns-in-Sub
expression-returns-in-Sub t c = record { written = rw c.in-Sub.is (search rules) }

pub expression-returns-in-Mul : goal.expression-returns-in-Mul
expression-returns-in-Mul t c = record { written = rw c.in-Mul.is (search rules) }
