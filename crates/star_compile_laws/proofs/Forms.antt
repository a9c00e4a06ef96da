-- What the form of a comparison comes to in a turn is what the comparison says of the turn's row.
use Rattle.std.{proofs.Common.{◌≡◌, ℕ, Bool, true, false, List, Some, refl, sym, ap, ◌∙◌, arith}, proofs.lemmas.Bool.and_parts, specs.Prelude.{ℤ, pos, ◌+ℤ◌, ◌&&◌, not}, specs.Ordering.{int_cmp, nat_cmp, is_lt, is_le}, specs.Cmp.Lexicographic.{slice_cmp, nat_list_cmp_total}, proofs.lemmas.Grind.common_steps, proofs.lemmas.Int.ints}
use Rattle.star_schema.specs.{declared.column.ColumnId.ColumnId, Order.value_cmp, Schema.kind_of, Tables.kind_of_value}
use Rattle.star_schema.specs.Tables as held
use Rattle.star_query.specs.{declared.token.Relation.Relation, Tree.Comparison, Tree.test}
use Rattle.star_query.specs.declared.token.Relation.TheVariants as sign
use Rattle.star_plan.specs.{declared.tree.Join.Join, Meaning.Joined, Meaning.holds, Meaning.joined_value, Meaning.tests, Names.same_kind, Sound.comparison_is_sound}
use Rattle.star_program.specs.{declared.value.Value.Value, declared.value.Value.TheVariants.{Flag, Number, Place, Text}, Effects.{answer_of, compared, loaded}, Values.flag_read, World.{World, edge_of, is_text}}
use Rattle.star_world.specs.RowsSeen.{IsCodeOf}
use Rattle.star_compile_laws.proofs.{Comparisons.{number_gt, number_ge, number_upto, place_lt, place_le, gt_not_le, ge_not_lt, le_not_lt, eq_both, ne_is}, Contents.{Form, Limit, after, before, column_tested, comparison_form, edge, ends, equals, form_of, negated, number, operator_of, starts, within}, Joins.{holds_numbers, holds_texts}, TurnRows.Shows}

module _ (w : World) (c : ColumnId) where
  abbrev pub limit_value : Limit → Value
  limit_value (number a) = Number a
  limit_value (edge e t) = Place c (edge_of w e c t)

  -- what the machine computes of the column's value
  abbrev pub form_value : Value → Form → Value
  form_value v (before o l) = answer_of (operator_of o) (Some v) (Some (limit_value l))
  form_value v (after o l) = answer_of (operator_of o) (Some (limit_value l)) (Some v)
  form_value v (within l u) =
      Flag (is_le (compared (Some (limit_value l)) (Some v))
      && is_lt (compared (Some v) (Some (limit_value u))))
  form_value v (negated f) = Flag (not (flag_read (Some (form_value v f))))

  number_tested : (s : Relation) (z a : ℤ)
      → form_value (Number z) (form_of s (held.Number a)) ≡ Flag (tests s (int_cmp z a))
  number_tested it z a = grind (arith, common_steps, ints, ne_is, number_gt, number_ge)

  module _ (n : ℕ) (v : List ℕ) (code : IsCodeOf w c v n) where
    text_within : (a b : List ℕ)
        → form_value (Text c n) (within (starts (held.Text a)) (ends (held.Text b)))
        ≡ Flag (not (is_lt (slice_cmp nat_cmp v a)) && is_le (slice_cmp nat_cmp v b))
    text_within a b = λ j. Flag ((place_le n (w.low c a) ∙ ap not (code.low a)) j
        && (place_lt n (w.high c b) ∙ code.high b) j)

    text_equal : (t : List ℕ) → form_value (Text c n) (equals (held.Text t))
        ≡ Flag (tests sign.Equal (slice_cmp nat_cmp v t))
    text_equal t = text_within t t ∙ ap Flag (eq_both (slice_cmp nat_cmp v t))

    text_tested : (s : Relation) (t : List ℕ)
        → form_value (Text c n) (form_of s (held.Text t)) ≡ Flag (tests s (slice_cmp nat_cmp v t))
    text_tested it t =
        grind (arith, common_steps, text_equal, ne_is, place_lt, place_le, gt_not_le, ge_not_lt)

  -- ---- the value that a row has

  loaded_number : (i : ℕ) (b : Bool) (z : ℤ) → b ≡ false → w.number c i ≡ z
      → loaded w c i b ≡ Number z
  loaded_number i true z e n = absurd (cc)
  loaded_number i false z e n = ap Number n

  loaded_text : (i : ℕ) (b : Bool) → b ≡ true → loaded w c i b ≡ Text c (w.code c i)
  loaded_text i true e = refl
  loaded_text i false e = absurd (cc)

  compared_by : (s : Relation) (i : ℕ) (v lit : held.Value) → Shows w c i v
      → same_kind (kind_of c) (kind_of_value lit) ≡ true
      → form_value (loaded w c i (is_text c)) (form_of s lit) ≡ Flag (tests s (value_cmp v lit))
  compared_by s i (held.Number z) (held.Number a) shows kind =
      ap (λ u. form_value u (form_of s (held.Number a)))
      (loaded_number i (is_text c) z shows.0 shows.1) ∙ number_tested s z a
  compared_by s i (held.Text v) (held.Text t) shows kind =
      ap (λ u. form_value u (form_of s (held.Text t))) (loaded_text i (is_text c) shows.0)
      ∙ text_tested (w.code c i) v shows.1 s t
  compared_by s i (held.Number z) (held.Text t) shows kind =
      let a : true ≡ false = sym (holds_texts c kind) ∙ shows.0 in absurd (cc)
  compared_by s i (held.Text v) (held.Number z) shows kind =
      let a : true ≡ false = sym shows.0 ∙ holds_numbers c kind in absurd (cc)

  lies_between : (i : ℕ) (v a b : held.Value) → Shows w c i v
      → same_kind (kind_of c) (kind_of_value a) ≡ true
      → same_kind (kind_of c) (kind_of_value b) ≡ true
      → form_value (loaded w c i (is_text c)) (within (starts a) (ends b))
      ≡ Flag (is_le (value_cmp a v) && is_le (value_cmp v b))
  lies_between i (held.Number z) (held.Number a) (held.Number b) shows k1 k2 =
      ap (λ u. form_value u (within (number a) (number (b +ℤ pos 1))))
      (loaded_number i (is_text c) z shows.0 shows.1)
      ∙ ap (λ o. Flag (is_le (int_cmp a z) && o)) (number_upto z b)
  lies_between i (held.Text v) (held.Text a) (held.Text b) shows k1 k2 =
      ap (λ u. form_value u (within (starts (held.Text a)) (ends (held.Text b))))
      (loaded_text i (is_text c) shows.0)
      ∙ text_within (w.code c i) v shows.1 a b
      ∙ ap (λ o. Flag (o && is_le (slice_cmp nat_cmp v b)))
      (sym (le_not_lt (slice_cmp nat_cmp v a)) ∙ ap is_le (sym (nat_list_cmp_total.antisymm a v)))
  lies_between i (held.Number z) (held.Text t) u shows k1 k2 =
      let a : true ≡ false = sym (holds_texts c k1) ∙ shows.0 in absurd (cc)
  lies_between i (held.Number z) (held.Number a) (held.Text t) shows k1 k2 =
      let a : true ≡ false = sym (holds_texts c k2) ∙ shows.0 in absurd (cc)
  lies_between i (held.Text v) (held.Number z) u shows k1 k2 =
      let a : true ≡ false = sym shows.0 ∙ holds_numbers c k1 in absurd (cc)
  lies_between i (held.Text v) (held.Text a) (held.Number z) shows k1 k2 =
      let a : true ≡ false = sym shows.0 ∙ holds_numbers c k2 in absurd (cc)

pub comparison_says : (w : World) (js : List Join) (t : Comparison ColumnId held.Value) (i : ℕ)
    (row : Joined) → comparison_is_sound js t ≡ true
    → Shows w (column_tested t) i (joined_value (column_tested t) row)
    → form_value w (column_tested t) (loaded w (column_tested t) i (is_text (column_tested t)))
    (comparison_form t) ≡ Flag (holds (test t) row)
comparison_says w js it i row ok shows =
    grind (arith, common_steps, compared_by, and_parts, lies_between)
