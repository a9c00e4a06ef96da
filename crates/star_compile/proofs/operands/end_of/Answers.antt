use Rattle.std.proofs.Common.{◌≡◌, true, sym, ap, ◌∙◌}
use Rattle.star_plan.specs.{Views.literal_value_view, Spelled.value_is_spelled}
use Rattle.star_program.specs.declared.op.Operation.TheVariants.{Const}
use Rattle.star_query.specs.Spelled.{has_few_digits}
use Rattle.star_compile_laws.specs.Compiled.{end_behind}
use Rattle.star_compile.proofs.Numbers.{next_fits, next_is}
use Rattle.star_compile.proofs.operands.end_of.Goals as goal

pub overflow_add-result : goal.overflow_add-result
overflow_add-result c =
    let number : has_few_digits c.in-Number.number ≡ true =
    ap (λ l. value_is_spelled (literal_value_view l)) (sym c.in-Number.is) ∙ c.requires.spelled in
    next_fits c.in-Number.number number

pub returns-in-Number : goal.returns-in-Number
returns-in-Number c =
    let number : has_few_digits c.in-Number.number ≡ true =
    ap (λ l. value_is_spelled (literal_value_view l)) (sym c.in-Number.is) ∙ c.requires.spelled in
    ap Const (next_is c.in-Number.number number)
    ∙ ap (λ l. end_behind c.args.column (literal_value_view l)) (sym c.in-Number.is)
