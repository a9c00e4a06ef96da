-- How the names, numbers and texts of a plan are spelled.
use Rattle.std.specs.{Prelude.◌≡◌, Prelude.Bool, Prelude.true, Prelude.◌&&◌, List.list_all}
use Rattle.star_schema.specs.declared.column.ColumnId.{ColumnId}
use Rattle.star_query.specs.{Leaves.of_operands, Leaves.of_tests, Spelled.comparison_is_spelled, Spelled.is_name, Spelled.has_few_digits, Tree.Expression, Tree.Measure, Tree.fold, Tree.count}
use Rattle.star_plan.specs.Meaning.{RowCondition, Plan}
pub use Rattle.star_query.specs.Spelled.{value_is_spelled}

abbrev pub condition_is_spelled : RowCondition → Bool
condition_is_spelled c = of_tests (comparison_is_spelled (λ c. true) value_is_spelled) (λ b. b) ◌&&◌ c

abbrev pub expression_is_spelled : Expression ColumnId → Bool
expression_is_spelled e = of_operands (λ c. true) has_few_digits ◌&&◌ e

abbrev pub measure_is_spelled : Measure ColumnId → Bool
measure_is_spelled count = true
measure_is_spelled (fold f e) = expression_is_spelled e

-- names of 1 to 64 letters, digits and _, numbers of at most 18 digits, and texts from the space to
-- the tilde
pub record IsSpelledPlan (p : Plan) : Type 0 where
  pub names : list_all is_name p.names ≡ true
  pub conjuncts : list_all condition_is_spelled p.conjuncts ≡ true
  pub measures : list_all measure_is_spelled p.measures ≡ true
