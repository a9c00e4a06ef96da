-- How the names, numbers and texts of a query's tree are spelled.
use Rattle.std.specs.{Prelude.{◌≡◌, ℕ, ℤ, ◌^◌, unsigned_abs, Bool, true, ◌&&◌, nat_le, nat_lt, List, length, Option, Some, None}, List.list_all}
use Rattle.star_common.specs.Printable.{is_printable}
use Rattle.star_schema.specs.Tables.{Value, Number, Text}
use Rattle.star_query.specs.{Tokens.{begins_with_letter, is_word_byte}, Maxima.{most_digits, most_name_bytes}, Leaves.{of_operands, of_tests}, Tree.{Name, Expression, Comparison, compare, between, Test, pair, comparison, Condition, Measure, fold, count, Item, plain, aggregate, Tree}}

-- 1 to 64 letters, digits and _, and no digit first
unfoldable pub is_name : List ℕ → Bool
is_name word = begins_with_letter word && (list_all is_word_byte word && nat_le (length word) most_name_bytes)

-- at most 18 digits
unfoldable pub has_few_digits : ℤ → Bool
has_few_digits z = nat_lt (unsigned_abs z) (10 ^ most_digits)

-- bytes from the space to the tilde
unfoldable pub is_printable_text : List ℕ → Bool
is_printable_text bytes = list_all is_printable bytes

abbrev pub value_is_spelled : Value → Bool
value_is_spelled (Number z) = has_few_digits z
value_is_spelled (Text bytes) = is_printable_text bytes

abbrev pub expression_is_spelled : Expression Name → Bool
expression_is_spelled e = of_operands (λ n. is_name n.text) has_few_digits ◌&&◌ e

-- a comparison of columns and values that are spelled so
abbrev pub comparison_is_spelled : {C V : Type 0} → (C → Bool) → (V → Bool) → Comparison C V → Bool
comparison_is_spelled of_column of_value (compare c q v) = of_column c && of_value v
comparison_is_spelled of_column of_value (between c v w) = of_column c && (of_value v && of_value w)

abbrev pub test_is_spelled : Test → Bool
test_is_spelled (pair m n) = is_name m.text && is_name n.text
test_is_spelled (comparison c) = comparison_is_spelled (λ n. is_name n.text) value_is_spelled c

abbrev pub condition_is_spelled : Condition Test → Bool
condition_is_spelled c = of_tests test_is_spelled (λ b. b) ◌&&◌ c

abbrev pub where_is_spelled : Option (Condition Test) → Bool
where_is_spelled None = true
where_is_spelled (Some c) = condition_is_spelled c

abbrev pub measure_is_spelled : Measure Name → Bool
measure_is_spelled (fold f e) = expression_is_spelled e
measure_is_spelled count = true

abbrev pub alias_is_spelled : Option Name → Bool
alias_is_spelled None = true
alias_is_spelled (Some n) = is_name n.text

abbrev pub item_is_spelled : Item → Bool
item_is_spelled (plain n) = is_name n.text
item_is_spelled (aggregate a) = measure_is_spelled a.measure && alias_is_spelled a.name

pub record IsSpelledQuery (t : Tree) : Type 0 where
  pub items : list_all item_is_spelled t.items ≡ true
  pub tables : list_all (λ n. is_name n.text) t.tables ≡ true
  pub condition : where_is_spelled t.condition ≡ true
  pub columns : list_all (λ n. is_name n.text) t.grouping.columns ≡ true
  pub keys : list_all (λ k. is_name k.name.text) t.keys ≡ true
