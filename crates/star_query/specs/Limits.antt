-- How much the tree of a query holds at most.
use Rattle.std.specs.{Prelude.{ℕ, ◌+◌, ◌≤◌, length, Option, Some, None}, List.sum_by}
use Rattle.star_query.specs.{Maxima.{most_aggregates, most_columns, most_comparisons, most_items, most_keys, most_operands}, Leaves.{of_operands, of_tests}, Tree.{Expression, Condition, Test, Measure, fold, count, Item, plain, aggregate, Tree}}

-- the columns and numbers of an expression
abbrev pub operands_of : {C : Type 0} → Expression C → ℕ
operands_of e = of_operands (λ c. 1) (λ z. 1) ◌+◌ e

abbrev pub measure_operands : {C : Type 0} → Measure C → ℕ
measure_operands (fold f e) = operands_of e
measure_operands count = 0

abbrev pub item_operands : Item → ℕ
item_operands (plain n) = 0
item_operands (aggregate a) = measure_operands a.measure

abbrev pub aggregates_in : Item → ℕ
aggregates_in (plain n) = 0
aggregates_in (aggregate a) = 1

-- the comparisons and negations of a condition
abbrev pub comparisons_of : {T : Type 0} → Condition T → ℕ
comparisons_of c = of_tests (λ t. 1) (λ n. n + 1) ◌+◌ c

abbrev pub where_comparisons : Option (Condition Test) → ℕ
where_comparisons None = 0
where_comparisons (Some c) = comparisons_of c

pub record IsQueryWithinLimits (t : Tree) : Type 0 where
  pub items : length t.items ≤ most_items
  pub aggregates : sum_by aggregates_in t.items ≤ most_aggregates
  pub operands : sum_by item_operands t.items ≤ most_operands
  pub comparisons : where_comparisons t.condition ≤ most_comparisons
  pub columns : length t.grouping.columns ≤ most_columns
  pub keys : length t.keys ≤ most_keys
