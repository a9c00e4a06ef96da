-- The column at a position of a table.
use Rattle.std.{proofs.Common.{◌≡◌, ◌<◌, ℕ, ℤ, List, Option, None, Some, length, map, get_or, refl, sym, ap, ◌∙◌, arith}, proofs.lemmas.List.{length-map, map-id}, proofs.lemmas.List.Elements.All-get_or, proofs.lemmas.Option.{slice_get-map, slice_get_read, slice_get_within}, proofs.lemmas.Simd.map-map, specs.List.slice_get, specs.Option.{option_and_then, option_map}}
use Rattle.star_schema.specs.{declared.table.TableId.TableId, declared.column.Kind.Kind, Bounds.number_in, Bounds.numbers_at, Schema.kinds_of, Tables.Number, Tables.Text, Tables.Value, Tables.value_at, Texts.text_in, Texts.texts_at}
use Rattle.star_reader.{specs.declared.column.RawColumn.RawColumn, specs.declared.column.RawColumn.TheVariants.{Numbers, Texts}, specs.Columns.{AreColumnsOf, first_rows, raw_kind, values}, proofs.RowLemmas.read_there}

-- a column at its position
pub record IsColumnAt (rows : ℕ) (columns : List RawColumn) (index : ℕ) (k : Kind)
    (column : RawColumn) : Type 0 where
  pub kind : raw_kind column ≡ k
  pub full : length (values column) ≡ rows
  pub there : slice_get (map values columns) index ≡ Some (values column)

pub index_within : (table : TableId) (rows : ℕ) (columns : List RawColumn) (index : ℕ) (k : Kind)
    → AreColumnsOf table rows columns → slice_get (kinds_of table) index ≡ Some k
    → index < length columns
index_within table rows columns index k h at =
    let here : slice_get (map raw_kind columns) index ≡ Some k = rw h.kinds at in
    omega (arith, slice_get_within (map raw_kind columns) index k here, length-map columns raw_kind)

pub column_at : {table : TableId} {rows : ℕ} {columns : List RawColumn} {index : ℕ} {k : Kind}
    {column : RawColumn} → AreColumnsOf table rows columns
    → slice_get (kinds_of table) index ≡ Some k
    → column ≡ get_or columns index column → IsColumnAt rows columns index k column
column_at {table} {rows} {columns} {index} {k} {column} h at is =
    let within = index_within table rows columns index k h at in
    let there = slice_get_read columns (length columns) index column refl within is in
    let kinds : slice_get (map raw_kind columns) index ≡ Some (raw_kind column) =
    slice_get-map raw_kind columns index ∙ ap (option_map raw_kind) there in
    let same : Some (raw_kind column) ≡ Some k = sym kinds ∙ rw h.kinds at in
    record {
      kind = cc;
      full = ap (λ (c : RawColumn). length (values c)) is
          ∙ All-get_or (λ (c : RawColumn). length (values c) ≡ rows) columns index column within
          h.full;
      there = slice_get-map values columns index ∙ ap (option_map values) there;
    }

joined : {A B : Type 0} (f : A → Option B) (o : Option A) (p : Option B)
    → option_map f o ≡ option_map Some p → option_and_then f o ≡ p
joined f None None e = refl
joined f None (Some b) e = cc
joined f (Some a) None e = cc
joined f (Some a) (Some b) e = cc

-- what the rows have at the position of a column
module _ {rows : ℕ} {columns : List RawColumn} {index : ℕ} {k : Kind} where
  pub numbers_are : {numbers : List ℤ} → IsColumnAt rows columns index k (Numbers numbers)
      → numbers_at index (first_rows rows (map values columns)) ≡ numbers
  unfolding numbers_at
  numbers_are {numbers} is =
      read_there number_in rows (map values columns) index (map Number numbers) is.full is.there
      ∙ map-map (λ (value : Value). number_in (Some value)) Number numbers ∙ map-id numbers

  pub texts_are : {texts : List (List ℕ)} → IsColumnAt rows columns index k (Texts texts)
      → texts_at index (first_rows rows (map values columns)) ≡ texts
  unfolding texts_at
  texts_are {texts} is =
      read_there text_in rows (map values columns) index (map Text texts) is.full is.there
      ∙ map-map (λ (value : Value). text_in (Some value)) Text texts ∙ map-id texts

  pub value_there : {column : RawColumn} → IsColumnAt rows columns index k column → (row : ℕ)
      → value_at (first_rows rows (map values columns)) row index ≡ slice_get (values column) row
  value_there {column} is row =
      let found = first_rows rows (map values columns) in
      let at = λ (row_values : List Value). slice_get row_values index in
      joined at (slice_get found row) (slice_get (values column) row)
      (sym (slice_get-map at found row)
      ∙ ap (λ (read : List (Option Value)). slice_get read row)
      (read_there (λ o. o) rows (map values columns) index (values column) is.full is.there)
      ∙ slice_get-map (λ (value : Value). Some value) (values column) row)
