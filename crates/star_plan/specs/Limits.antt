-- How much a plan holds at most: the size of a compiled program follows from it.
use Rattle.std.specs.{Prelude.◌≤◌, Prelude.length, List.sum_by}
use Rattle.star_query.specs.{Maxima.{most_aggregates, most_columns, most_comparisons, most_items, most_keys, most_operands}, Limits.{comparisons_of, measure_operands}}
use Rattle.star_plan.specs.Meaning.{Plan}

-- at most one join for each dimension; the rest as the grammar of queries limits it
pub record IsPlanWithinLimits (p : Plan) : Type 0 where
  pub joins : length p.joins ≤ 4
  pub comparisons : sum_by comparisons_of p.conjuncts ≤ most_comparisons
  pub keys : length p.keys ≤ most_columns
  pub measures : length p.measures ≤ most_aggregates
  pub operands : sum_by measure_operands p.measures ≤ most_operands
  pub items : length p.items ≤ most_items
  pub sorts : length p.sorts ≤ most_keys
