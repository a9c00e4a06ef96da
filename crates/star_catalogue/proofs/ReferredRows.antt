-- The rows that foreign keys refer to.
use Rattle.std.{proofs.Common.{◌≡◌, ◌+◌, ◌<◌, ◌∷◌, ◌++◌, ◌∙◌, ℕ, ℤ, List, [], All, Contains, IsSome, MatchOption, Option, Some, None, ap, arith, get_or, inl, inr, length, refl, sym, take}, proofs.lemmas.List.{length-append, length-map, map-append}, proofs.lemmas.Option.{get_or_from_slice_get, slice_get-get_or, slice_get-map, slice_get_within}, specs.List.slice_get, specs.Option.option_map}
use Rattle.star_schema.{specs.declared.column.ColumnId.ColumnId, specs.declared.column.TheConstants.COLUMNS, specs.declared.table.TableId.TableId, specs.Bounds.numbers_of, specs.Database.{Database, rows_in}, specs.Loadable.{RefersTo, keys_of}, specs.Schema.{index_of, position_of, references, table_of}, proofs.Same.at_index}
use Rattle.star_catalogue.{specs.Private.Referred.{AreFound, AreOfFirst, AreReferred, AreRowsReferredTo, rows_view}, specs.declared.referred.Referred.Referred, specs.ReferredRows.AreReferredRows, proofs.Copies.copied_more}
use Rattle.star_flat.proofs.Pushed.{pushed_cases}
use Rattle.star_reader.proofs.RowIndexes.{length-numbers_at}

pub found_more : (keys : List (List ℤ)) (numbers : List ℤ) (rows more : List ℕ) (i : ℕ) (number : ℤ)
    (row : ℕ) → AreFound keys (take i numbers) rows → more ≡ rows ++ row ∷ []
    → slice_get numbers i ≡ Some number → slice_get keys row ≡ Some (number ∷ [])
    → AreFound keys (take (i + 1) numbers) more
found_more keys numbers rows more i number row so_far pushed at key =
    let next : take i numbers ++ number ∷ [] ≡ take (i + 1) numbers =
    copied_more numbers (take i numbers) (take i numbers ++ number ∷ []) i number refl refl at in
    rw (pushed, ← next) (record {
      found = map-append (λ (r : ℕ). slice_get keys r) rows (row ∷ [])
          ∙ rw (so_far.found, key) refl
          ∙ sym (map-append (λ (n : ℤ). Some (n ∷ [])) (take i numbers) (number ∷ []));
    })

-- a number that no row has as its key
pub absent_one : (keys : List (List ℤ)) (numbers : List ℤ) (i : ℕ) (number : ℤ)
    → slice_get numbers i ≡ Some number → ((row : ℕ) → slice_get keys row ≡ Some (number ∷ []) → ⊥)
    → All (λ n. Contains keys (n ∷ [])) numbers → ⊥
absent_one keys numbers i number at none all =
    let within = slice_get_within numbers i number at in
    let (row, inside, is) =
    rw (get_or_from_slice_get numbers i number number at) at (all i number within) in
    none row (slice_get-get_or keys row (number ∷ []) inside ∙ ap (λ (k : List ℤ). Some k) is)

-- there are as many rows as numbers
pub found_count : (keys : List (List ℤ)) (numbers : List ℤ) (rows : List ℕ)
    → AreFound keys numbers rows → length rows ≡ length numbers
found_count keys numbers rows h =
    sym (length-map rows (λ (r : ℕ). slice_get keys r)) ∙ ap length h.found
    ∙ length-map numbers (λ (n : ℤ). Some (n ∷ []))

-- the row at a position, and its key
pub row_there : (keys : List (List ℤ)) (numbers : List ℤ) (rows : List ℕ) (i : ℕ) (number : ℤ)
    → AreFound keys numbers rows → slice_get numbers i ≡ Some number
    → (row : ℕ) × (slice_get rows i ≡ Some row) × (slice_get keys row ≡ Some (number ∷ []))
row_there keys numbers rows i number h at =
    let within : i < length rows =
    omega (arith, found_count keys numbers rows h, slice_get_within numbers i number at) in
    let row = get_or rows i 0 in
    let there : slice_get rows i ≡ Some row = slice_get-get_or rows i 0 within in
    let key : Some (slice_get keys row) ≡ Some (Some (number ∷ [])) =
    ap (option_map (λ (r : ℕ). slice_get keys r)) (sym there)
    ∙ sym (slice_get-map (λ (r : ℕ). slice_get keys r) rows i)
    ∙ ap (λ xs. slice_get xs i) h.found
    ∙ slice_get-map (λ (n : ℤ). Some (n ∷ [])) numbers i
    ∙ ap (option_map (λ (n : ℤ). Some (n ∷ []))) at in
    let is : slice_get keys row ≡ Some (number ∷ []) = cc in (row, there, is)

-- then each number is a key
pub found_keys : (keys : List (List ℤ)) (numbers : List ℤ) (rows : List ℕ)
    → AreFound keys numbers rows → All (λ n. Contains keys (n ∷ [])) numbers
found_keys keys numbers rows h i d within =
    let at = slice_get-get_or numbers i d within in
    let (row, there, key) = row_there keys numbers rows i (get_or numbers i d) h at in (
      row,
      slice_get_within keys row (get_or numbers i d ∷ []) key,
      get_or_from_slice_get keys row (get_or numbers i d ∷ []) (get_or numbers i d ∷ []) key,
    )

-- what was found of the table that a column refers to
pub of_table : (database : Database) (c : ColumnId) (t : TableId) → references c ≡ Some t
    → (found : Option (List ℕ)) → MatchOption found (¬ RefersTo database c t)
    (AreFound (keys_of t (rows_in database t)) (numbers_of c (rows_in database (table_of c))))
    → MatchOption found (¬ ((u : TableId) → references c ≡ Some u → RefersTo database c u))
    (AreRowsReferredTo database c)
of_table database c t refers None absent = λ all. absent (all t refers)
of_table database c t refers (Some rows) found = λ u other. let same : t ≡ u = cc in
    rw (← same) found

-- the rows of the columns, one column after the other
pub of_one_more : {database : Database} {n : ℕ} {lists : List (List ℕ)} (c : ColumnId)
    (rows : List ℕ) (more : List (List ℕ)) → AreOfFirst database n lists → more ≡ lists ++ rows ∷ []
    → slice_get COLUMNS n ≡ Some c → AreRowsReferredTo database c rows
    → AreOfFirst database (n + 1) more
of_one_more {database} {n} {lists} c rows more so_far pushed at are =
    rw pushed (record {
      all = length-append lists (rows ∷ []) ∙ ap (λ m. m + 1) so_far.all;
      each = λ i d other d_at there. elim (pushed_cases lists rows i other there) [
        | inl before ↦ so_far.each i d other d_at before
        | inr last ↦
            let same : Some c ≡ Some d =
            sym at ∙ ap (slice_get COLUMNS) (sym (last.0 ∙ so_far.all)) ∙ d_at in
            let is : c ≡ d = cc in
            rw (← is, ← last.1) are
      ];
    })

-- the rows of one column
pub of_column : (database : Database) (kept : Referred) (c : ColumnId) → AreReferred database kept
    → (index_of c < length kept.rows.items) × AreRowsReferredTo database c (rows_view kept c)
of_column database kept c are =
    let within = rw (← are.all) at (slice_get_within COLUMNS (index_of c) c (at_index c)) in (
      within,
      are.each (index_of c) c (rows_view kept c) (at_index c)
          (slice_get-get_or kept.rows.items (index_of c) [] within),
    )

-- all rows of a column that refers to a table
pub are_rows : (database : Database) (kept : Referred) (c : ColumnId) → AreReferred database kept
    → IsSome (references c) → AreReferredRows database c (rows_view kept c)
are_rows database kept c are some = by (references c) refl
  where
    by : (r : Option TableId) → references c ≡ r
        → AreReferredRows database c (rows_view kept c)
    by None free = let none = rw free at some in let bad : ⊥ = cc in absurd bad
    by (Some t) refers =
        let found = (of_column database kept c are).1 t refers in
        record {
          all = found_count (keys_of t (rows_in database t))
              (numbers_of c (rows_in database (table_of c))) (rows_view kept c) found
              ∙ length-numbers_at (position_of c) (rows_in database (table_of c));
          each = λ other row number refers_to at.
              let there = row_there (keys_of other (rows_in database other))
              (numbers_of c (rows_in database (table_of c))) (rows_view kept c) row number
              ((of_column database kept c are).1 other refers_to) at in
              rw (get_or_from_slice_get (rows_view kept c) row there.0 0 there.1) there.2;
        }
