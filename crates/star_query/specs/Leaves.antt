-- What expressions and conditions come to, by what their leaves do.
use Rattle.std.specs.Prelude.{ℤ, ◌+ℤ◌, ◌-ℤ◌, ◌*ℤ◌, Bool, ◌&&◌, ◌||◌, not as negated}
use Rattle.star_query.specs.Tree.{Expression, column, constant, add, sub, mul, Condition, or, and, not, test}

-- an expression, by its columns, its numbers and its operations
abbrev pub fold_expression : {C A : Type 0} → (C → A) → (ℤ → A) → ((ℤ → ℤ → ℤ) → A → A → A) → Expression C → A
fold_expression of_column of_number by (column c) = of_column c
fold_expression of_column of_number by (constant z) = of_number z
fold_expression of_column of_number by (add a b) = by ◌+ℤ◌ (fold_expression of_column of_number by a) (fold_expression of_column of_number by b)
fold_expression of_column of_number by (sub a b) = by ◌-ℤ◌ (fold_expression of_column of_number by a) (fold_expression of_column of_number by b)
fold_expression of_column of_number by (mul a b) = by ◌*ℤ◌ (fold_expression of_column of_number by a) (fold_expression of_column of_number by b)

-- whatever the operations are
abbrev pub of_operands : {C A : Type 0} → (C → A) → (ℤ → A) → (A → A → A) → Expression C → A
of_operands of_column of_number together e = fold_expression of_column of_number (λ op. together) e

-- a condition, by its tests and by what `not`, `or` and `and` do
abbrev pub fold_condition : {T A : Type 0} → (T → A) → (A → A) → (A → A → A) → (A → A → A) → Condition T → A
fold_condition of_test of_not some every (or a b) = some (fold_condition of_test of_not some every a) (fold_condition of_test of_not some every b)
fold_condition of_test of_not some every (and a b) = every (fold_condition of_test of_not some every a) (fold_condition of_test of_not some every b)
fold_condition of_test of_not some every (not a) = of_not (fold_condition of_test of_not some every a)
fold_condition of_test of_not some every (test t) = of_test t

-- if `or` and `and` do the same
abbrev pub of_tests : {T A : Type 0} → (T → A) → (A → A) → (A → A → A) → Condition T → A
of_tests of_test of_not together c = fold_condition of_test of_not together together c

-- whether a condition is true, by which of its tests are
abbrev pub is_so : {T : Type 0} → (T → Bool) → Condition T → Bool
is_so passes c = fold_condition passes negated ◌||◌ ◌&&◌ c
