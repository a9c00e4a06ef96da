-- A column of texts has no numbers, so that its bounds are 0 and 0.
use Rattle.std.{proofs.Common.{◌≡◌, ℤ, pos, List, [], ◌∷◌, Option, Some, None, refl, sym, ap, ◌∙◌}, proofs.lemmas.List.Elements.{All-contains, All-map}, proofs.lemmas.Option.slice_get-map, specs.List.All, specs.Option.option_map, specs.Prelude.slice_get}
use Rattle.star_schema.{specs.Tables.{IsRowOf, Number, Text, Value, kind_of_value}, specs.Bounds.{greatest, least, number_in, numbers_at}, specs.Database.{Database, rows_in}, specs.Schema.{columns_of, kind_of, position_of, table_of}, specs.Columns.column_numbers, specs.declared.column.ColumnId.ColumnId, proofs.Extremes.{least_there, greatest_there}, proofs.Indexes.at_position}
use Rattle.star_interval.specs.Range.{only}
use Rattle.star_world.specs.WorldOf.{world_of}
use Rattle.star_schema.specs.declared.column.Kind.TheVariants as kind

abbrev IsZero : ℤ → Type 0
IsZero n = n ≡ pos 0

least_zero : (zs : List ℤ) → All IsZero zs → least zs ≡ pos 0
unfolding least
least_zero [] zero = refl
least_zero (z ∷ zs) zero = All-contains IsZero (z ∷ zs) _ zero (least_there z zs)

greatest_zero : (zs : List ℤ) → All IsZero zs → greatest zs ≡ pos 0
unfolding greatest
greatest_zero [] zero = refl
greatest_zero (z ∷ zs) zero = All-contains IsZero (z ∷ zs) _ zero (greatest_there z zs)

text_zero : (o : Option Value) → option_map kind_of_value o ≡ Some kind.Text → IsZero (number_in o)
text_zero None e = absurd (cc)
text_zero (Some (Number n)) e = absurd (cc)
text_zero (Some (Text bytes)) e = refl

row_zero : (c : ColumnId) → kind_of c ≡ kind.Text → (row : List Value) → IsRowOf (table_of c) row
    → IsZero (number_in (slice_get row (position_of c)))
row_zero c is row typed =
    text_zero (slice_get row (position_of c))
    (sym (slice_get-map kind_of_value row (position_of c))
    ∙ ap (λ kinds. slice_get kinds (position_of c)) typed
    ∙ slice_get-map kind_of (columns_of (table_of c)) (position_of c)
    ∙ ap (option_map kind_of) (at_position c)
    ∙ ap Some is)

numbers_zero : (c : ColumnId) → kind_of c ≡ kind.Text → (rows : List (List Value))
    → All (IsRowOf (table_of c)) rows → All IsZero (numbers_at (position_of c) rows)
unfolding numbers_at
numbers_zero c is rows typed =
    All-map IsZero (λ row. number_in (slice_get row (position_of c))) rows
    (λ i d within. row_zero c is _ (typed i d within))

pub text_bounds : (database : Database) (c : ColumnId) → kind_of c ≡ kind.Text
    → All (IsRowOf (table_of c)) (rows_in database (table_of c))
    → only (pos 0) ≡ (world_of database).bounds c
text_bounds database c is typed =
    let zero = numbers_zero c is (rows_in database (table_of c)) typed in
    λ i. record {
      low = sym (least_zero (column_numbers database c) zero) i;
      high = sym (greatest_zero (column_numbers database c) zero) i;
    }
