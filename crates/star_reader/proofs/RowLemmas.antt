-- The rows that columns make.
use Rattle.std.{proofs.Common.{◌≡◌, ◌+◌, ◌<◌, ◌≤◌, ℕ, zero, suc, List, [], ◌∷◌, ◌++◌, Option, Some, All, length, map, take, pos, get_or, refl, sym, ap, ◌∙◌, arith, length-append}, proofs.Math.Seq.{take-suc, take-length}, proofs.lemmas.List.{get_or_push, get_or_append_left, map-append}, proofs.lemmas.List.Elements.{All-cons, All-head, All-nil, All-tail}, proofs.lemmas.Option.slice_get-map, specs.List.slice_get, specs.Option.option_map}
use Rattle.star_schema.specs.Tables.{Value, Number}
use Rattle.star_reader.specs.{Columns.first_rows, Columns.row_of_columns, Private.Extended.extended_columns}

pub length-first_rows : (n : ℕ) (columns : List (List Value)) → length (first_rows n columns) ≡ n
unfolding first_rows
length-first_rows zero columns = refl
length-first_rows (suc n) columns =
    omega (
      arith,
      length-append (first_rows n columns) (row_of_columns columns n ∷ []),
      length-first_rows n columns,
    )

-- what is read of the values at a position is read of the values of the column there
read_first : {X : Type 0} (read : Option Value → X) (n : ℕ) (columns : List (List Value))
    (index : ℕ) (column : List Value) → n ≤ length column → slice_get columns index ≡ Some column
    → map (λ row. read (slice_get row index)) (first_rows n columns)
    ≡ map (λ value. read (Some value)) (take n column)
unfolding first_rows
read_first read zero columns index column h at = refl
read_first read (suc n) columns index column h at =
    let last : slice_get (row_of_columns columns n) index
    ≡ Some (get_or column n (Number (pos 0))) =
    slice_get-map (λ (c : List Value). get_or c n (Number (pos 0))) columns index
    ∙ ap (option_map (λ (c : List Value). get_or c n (Number (pos 0)))) at in
    map-append (λ (row : List Value). read (slice_get row index)) (first_rows n columns)
    (row_of_columns columns n ∷ [])
    ∙ rw (read_first read n columns index column (omega arith) at, last)
    (sym (ap (map (λ (value : Value). read (Some value)))
    (take-suc column n (Number (pos 0)) (omega arith))
    ∙ map-append (λ (value : Value). read (Some value)) (take n column) (_ ∷ [])))

pub read_there : {X : Type 0} (read : Option Value → X) (n : ℕ) (columns : List (List Value))
    (index : ℕ) (column : List Value) → length column ≡ n → slice_get columns index ≡ Some column
    → map (λ row. read (slice_get row index)) (first_rows n columns)
    ≡ map (λ value. read (Some value)) column
read_there read n columns index column all at =
    read_first read n columns index column (omega arith) at
    ∙ ap (map (λ (value : Value). read (Some value)))
    (ap (λ m. take m column) (sym all) ∙ take-length column)

-- a row of the columns before stays
extended_before : (columns : List (List Value)) (vs : List Value) (n i : ℕ)
    → All (λ column. length column ≡ n) columns → i < n
    → row_of_columns (extended_columns columns vs) i ≡ row_of_columns columns i
unfolding extended_columns
extended_before [] vs n i full h = refl
extended_before (column ∷ columns) [] n i full h = refl
extended_before (column ∷ columns) (v ∷ vs) n i full h =
    let here = All-head (λ (c : List Value). length c ≡ n) column columns full in
    let within : i < length column = omega (arith, here) in
    rw (
      get_or_append_left column (v ∷ []) (Number (pos 0)) i within,
      extended_before columns vs n i
          (All-tail (λ (c : List Value). length c ≡ n) column columns full) h,
    ) refl

-- the new values are the new row
extended_last : (columns : List (List Value)) (vs : List Value) (n : ℕ)
    → All (λ column. length column ≡ n) columns → length vs ≡ length columns
    → row_of_columns (extended_columns columns vs) n ≡ vs
unfolding extended_columns
extended_last [] [] n full e = refl
extended_last [] (v ∷ vs) n full e = absurd (omega arith)
extended_last (column ∷ columns) [] n full e = absurd (omega arith)
extended_last (column ∷ columns) (v ∷ vs) n full e =
    let here = All-head (λ (c : List Value). length c ≡ n) column columns full in
    let rest : length vs ≡ length columns = omega arith in
    rw (
      get_or_push column v (Number (pos 0)) n here,
      extended_last columns vs n
          (All-tail (λ (c : List Value). length c ≡ n) column columns full) rest,
    ) refl

first_before : (m : ℕ) (columns : List (List Value)) (vs : List Value) (n : ℕ)
    → All (λ column. length column ≡ n) columns → m ≤ n
    → first_rows m (extended_columns columns vs) ≡ first_rows m columns
unfolding first_rows
first_before zero columns vs n full h = refl
first_before (suc m) columns vs n full h =
    rw (
      first_before m columns vs n full (omega arith),
      extended_before columns vs n m full (omega arith),
    ) refl

-- one more row
pub first_rows-extended : (columns : List (List Value)) (vs : List Value) (n : ℕ)
    → All (λ column. length column ≡ n) columns → length vs ≡ length columns
    → first_rows (n + 1) (extended_columns columns vs) ≡ first_rows n columns ++ vs ∷ []
unfolding first_rows
first_rows-extended columns vs n full e =
    let one : n + 1 ≡ suc n = omega arith in
    rw (one, first_before n columns vs n full (omega arith), extended_last columns vs n full e) refl

-- each column is longer by one
pub extended_full : (columns : List (List Value)) (vs : List Value) (n : ℕ)
    → All (λ column. length column ≡ n) columns → length vs ≡ length columns
    → All (λ column. length column ≡ n + 1) (extended_columns columns vs)
unfolding extended_columns
extended_full [] vs n full e = All-nil (λ (c : List Value). length c ≡ n + 1)
extended_full (column ∷ columns) [] n full e = absurd (omega arith)
extended_full (column ∷ columns) (v ∷ vs) n full e =
    let here = All-head (λ (c : List Value). length c ≡ n) column columns full in
    let rest : length vs ≡ length columns = omega arith in
    All-cons (λ (c : List Value). length c ≡ n + 1) (column ++ v ∷ []) (extended_columns columns vs)
    (omega (arith, length-append column (v ∷ []), here))
    (extended_full columns vs n
    (All-tail (λ (c : List Value). length c ≡ n) column columns full) rest)
