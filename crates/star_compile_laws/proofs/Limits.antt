-- The limits that a plan's comparisons make: of the kinds of their columns, and short enough to be
-- said.
use Rattle.std.{proofs.Common.{◌≡◌, ℕ, suc, ◌+◌, ◌<◌, ◌^◌, true, List, FitsSigned, w64, arith}, proofs.lemmas.Int.ints, proofs.lemmas.Bool.{and_parts, lt-ltb, ltb-true}, specs.Prelude.{ℤ, pos, negsuc, ◌≤ℤ◌, ◌+ℤ◌, ◌&&◌}, proofs.lemmas.Grind.common_steps}
use Rattle.star_schema.specs.{declared.column.ColumnId.ColumnId, Schema.kind_of, Schema.table_of, Tables.Value, Tables.Number, Tables.Text, Tables.kind_of_value}
use Rattle.star_interval.specs.Range.{is_i64}
use Rattle.star_query.specs.{declared.token.Relation.Relation, Spelled.has_few_digits, Tree.Comparison, Tree.compare, Tree.between, Tree.test}
use Rattle.star_query.specs.declared.token.Relation.TheVariants as sign
use Rattle.star_plan.specs.{declared.tree.Join.Join, Names.same_kind, Sound.comparison_is_sound, Sound.in_scope, Spelled.condition_is_spelled, Spelled.value_is_spelled}
use Rattle.star_compile_laws.proofs.{Contents.{Form, IsLimit, after, before, column_tested, comparison_form, ends, equals, form_of, negated, starts, within}, Joins.{holds_numbers, holds_texts}}

-- ---- what a plan's numbers and texts are

pub constant_said : (z : ℤ) → has_few_digits z ≡ true → is_i64 z ≡ true
unfolding has_few_digits is_i64
constant_said it h = grind (arith, common_steps, ints, ltb-true, lt-ltb)

said_between : (z : ℤ) → negsuc 9223372036854775807 ≤ℤ z → z ≤ℤ pos 9223372036854775807
    → is_i64 z ≡ true
unfolding is_i64
said_between (pos n) a b = lt-ltb n (2 ^ 63) (omega (arith, ints))
said_between (negsuc n) a b = lt-ltb n (2 ^ 63) (omega (arith, ints))

next_below : (n : ℕ) → suc n < 10 ^ 18 → is_i64 (negsuc n +ℤ pos 1) ≡ true
next_below n h = said_between (negsuc n +ℤ pos 1) (omega (arith, ints)) (omega (arith, ints))

pub next_said : (z : ℤ) → has_few_digits z ≡ true → is_i64 (z +ℤ pos 1) ≡ true
unfolding has_few_digits is_i64
next_said (pos n) h = let p = ltb-true n (10 ^ 18) h in lt-ltb (n + 1) (2 ^ 63) (omega (arith, p))
next_said (negsuc n) h = next_below n (ltb-true (suc n) (10 ^ 18) h)

pub said_fits : (z : ℤ) → is_i64 z ≡ true → FitsSigned w64 z
unfolding is_i64
said_fits (pos n) h = let p = ltb-true n (2 ^ 63) h in omega (arith, p)
said_fits (negsuc n) h = let p = ltb-true n (2 ^ 63) h in omega (arith, p)

-- ---- limits

pub tested_in_scope : (js : List Join) (t : Comparison ColumnId Value)
    → comparison_is_sound js t ≡ true → in_scope js (table_of (column_tested t)) ≡ true
tested_in_scope js it ok = grind (arith, common_steps, and_parts)

module _ (Sound Spelled : Type 0) where
  -- the limits of a form are limits for the column
  abbrev pub IsForm : ColumnId → Form → Type 0
  IsForm c (before o l) = IsLimit Sound Spelled c l
  IsForm c (after o l) = IsLimit Sound Spelled c l
  IsForm c (within l u) = IsLimit Sound Spelled c l × IsLimit Sound Spelled c u
  IsForm c (negated f) = IsForm c f

  module _ (c : ColumnId) where
    start_fits : (v : Value) → (Sound → same_kind (kind_of c) (kind_of_value v) ≡ true)
        → (Spelled → value_is_spelled v ≡ true) → IsLimit Sound Spelled c (starts v)
    start_fits it kind said = grind (arith, common_steps, holds_numbers, constant_said, holds_texts)

    end_fits : (v : Value) → (Sound → same_kind (kind_of c) (kind_of_value v) ≡ true)
        → (Spelled → value_is_spelled v ≡ true) → IsLimit Sound Spelled c (ends v)
    end_fits it kind said = grind (arith, common_steps, holds_numbers, next_said, holds_texts)

    equal_fits : (v : Value) → (Sound → same_kind (kind_of c) (kind_of_value v) ≡ true)
        → (Spelled → value_is_spelled v ≡ true) → IsForm c (equals v)
    equal_fits (Number a) kind said = start_fits (Number a) kind said
    equal_fits (Text t) kind said = (start_fits (Text t) kind said, end_fits (Text t) kind said)

    relation_fits : (s : Relation) (v : Value)
        → (Sound → same_kind (kind_of c) (kind_of_value v) ≡ true)
        → (Spelled → value_is_spelled v ≡ true) → IsForm c (form_of s v)
    relation_fits sign.Equal v kind said = equal_fits v kind said
    relation_fits sign.Unequal v kind said = equal_fits v kind said
    relation_fits sign.Less v kind said = start_fits v kind said
    relation_fits sign.AtMost (Number a) kind said = start_fits (Number a) kind said
    relation_fits sign.AtMost (Text t) kind said = end_fits (Text t) kind said
    relation_fits sign.Greater (Number a) kind said = start_fits (Number a) kind said
    relation_fits sign.Greater (Text t) kind said = end_fits (Text t) kind said
    relation_fits sign.AtLeast v kind said = start_fits v kind said

  pub form_is_fit : (js : List Join) (t : Comparison ColumnId Value)
      → (Sound → comparison_is_sound js t ≡ true) → (Spelled → condition_is_spelled (test t) ≡ true)
      → IsForm (column_tested t) (comparison_form t)
  form_is_fit js (compare c s v) ok said = relation_fits c s v
      (λ z. (and_parts (in_scope js (table_of c)) (same_kind (kind_of c) (kind_of_value v))
      (ok z)).1) said
  form_is_fit js (between c from upto) ok said =
      let l = same_kind (kind_of c) (kind_of_value from) in
      let u = same_kind (kind_of c) (kind_of_value upto) in
      let kinds = λ (z : Sound). and_parts l u (and_parts (in_scope js (table_of c)) (l && u)
      (ok z)).1 in
      let says = λ (z : Spelled). and_parts (value_is_spelled from) (value_is_spelled upto)
      (said z) in (
        start_fits c from (λ z. (kinds z).0) (λ z. (says z).0),
        end_fits c upto (λ z. (kinds z).1) (λ z. (says z).1),
      )
