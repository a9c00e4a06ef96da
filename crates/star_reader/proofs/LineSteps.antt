-- One more field of a line.
use Rattle.std.{proofs.Common.{◌≡◌, ◌⊎◌, ◌+◌, ◌<◌, ◌≤◌, ◌∙◌, ◌==◌, ℕ, zero, suc, List, [], ◌∷◌, ◌++◌, true, false, Option, Some, None, drop, length, map, set, take, refl, sym, ap, inl, inr, arith, length-drop}, proofs.lemmas.Bool.{and_parts, cases_Bool, eq-eqb, eqb-true, true≢false}, proofs.lemmas.List.{drop-drop, length-map, length-take, length-take-le}, specs.List.slice_get}
use Rattle.star_schema.specs.{Tables.{cells_of, ends_in_bar, is_cell, is_empty_field, value_of}, declared.column.Kind.Kind, Records.{fields_of, is_bar, pieces, with_first}}
use Rattle.star_reader.{specs.declared.column.RawColumn.RawColumn, specs.declared.fault.ReadFault.ReadFault, specs.Columns.{raw_kind, values}, specs.Faults.{cell_fault, record_fault}, specs.Private.Fronts.{IsFront, left_of}, specs.Private.Steps.{AddsRecord, HasPushedTo}, proofs.Fronts.{end_left, front_there, left_within, next_left, none_left, start_left}, proofs.Counts.{right_count, wrong_count}, proofs.Fields.cell_at, proofs.Law.{cell_complete, cell_sound}}
use Rattle.star_reader.proofs.Pushes as pushes

at_front : {X : Type 0} (xs : List X) (i : ℕ) (x : X) (rest : List X) → drop i xs ≡ x ∷ rest
    → slice_get xs i ≡ Some x
at_front [] zero x rest e = cc
at_front [] (suc i) x rest e = cc
at_front (y ∷ ys) zero x rest e = let same : y ≡ x = cc in rw same refl
at_front (y ∷ ys) (suc i) x rest e = at_front ys i x rest e

behind_front : {X : Type 0} (xs : List X) (i : ℕ) (x : X) (rest : List X) → drop i xs ≡ x ∷ rest
    → drop (i + 1) xs ≡ rest
behind_front xs i x rest e = sym (drop-drop 1 i xs) ∙ ap (drop 1) e

never_empty : (b : ℕ) (ps : List (List ℕ)) → with_first b ps ≡ [] → ⊥
never_empty b [] e = cc e
never_empty b (p ∷ ps) e = cc e

some_pieces : (text : List ℕ) → pieces is_bar text ≡ [] → ⊥
unfolding pieces
some_pieces [] e = cc e
some_pieces (c ∷ text) e = elim (cases_Bool (is_bar c)) [
  | inl bar ↦ let bad : [] ∷ pieces is_bar text ≡ [] = rw bar at e in cc bad
  | inr other ↦ never_empty c (pieces is_bar text) (rw other at e)
]

never_blank : (b : ℕ) (ps : List (List ℕ)) → with_first b ps ≡ [] ∷ [] → ⊥
never_blank b [] e = cc e
never_blank b (p ∷ ps) e = cc e

-- a text is empty where it has one field that is empty
empty_text : (text : List ℕ) → fields_of text ≡ [] ∷ [] → text ≡ []
unfolding pieces
empty_text [] e = refl
empty_text (b ∷ text) e = absurd (elim (cases_Bool (is_bar b)) [
  | inl bar ↦
      let one : [] ∷ pieces is_bar text ≡ [] ∷ [] = rw bar at e in
      some_pieces text (ap (drop 1) one)
  | inr other ↦ never_blank b (pieces is_bar text) (rw other at e)
])

-- a fault of the count is one
miscounted : (ks : List Kind) (at_row : ℕ) (fields : List (List ℕ))
    → (length (cells_of (length ks) fields) ≡ length ks → ⊥)
    → record_fault ks at_row fields ≡ None → ⊥
miscounted ks at_row fields other none =
    let some = wrong_count ks at_row fields other in
    cc

-- too few fields
few_cells : (width : ℕ) (fields : List (List ℕ)) → length fields < width
    → length (cells_of width fields) ≡ width → ⊥
few_cells width fields few all = elim (cases_Bool (ends_in_bar width fields)) [
  | inl bar ↦
      let cut : length (take width fields) ≡ width = rw bar at all in
      omega (arith, few, cut, length-take width fields)
  | inr plain ↦
      let same : length fields ≡ width = rw plain at all in
      omega (arith, few, same)
]

pub start : (line : List ℕ) (ks : List Kind) (columns : List RawColumn)
    → HasPushedTo line ks 0 0 columns columns
start line ks columns = record {
  pushed = λ at_row. pushes.start at_row ks (cells_of (length ks) (fields_of line)) columns;
  counted = omega arith;
  left = sym (start_left line);
}

pub short_line : (line : List ℕ) (ks : List Kind) (i at at_row : ℕ) (old new : List RawColumn)
    → HasPushedTo line ks i at old new → i < length ks → length line < at
    → record_fault ks at_row (fields_of line) ≡ None → ⊥
short_line line ks i at at_row old new h within past =
    let none : drop i (fields_of line) ≡ [] = h.left ∙ none_left line at past in
    let size = length-drop i (fields_of line) in
    let zero_left : length (drop i (fields_of line)) ≡ 0 = ap length none in
    let few : length (fields_of line) < length ks = omega (arith, size, zero_left, within) in
    miscounted ks at_row (fields_of line) (few_cells (length ks) (fields_of line) few)

-- one more field
pub more : (line : List ℕ) (ks : List Kind) (i at count : ℕ) (old new : List RawColumn) (k : Kind)
    (column next : RawColumn) → HasPushedTo line ks i at old new → i < length ks → at ≤ length line
    → IsFront (drop at line) count → slice_get ks i ≡ Some k
    → is_cell k (take count (drop at line)) ≡ true → slice_get new i ≡ Some column
    → values next ≡ values column ++ value_of k (take count (drop at line)) ∷ []
    → raw_kind next ≡ raw_kind column
    → HasPushedTo line ks (i + 1) (at + (count + 1)) old (set new i next)
more line ks i at count old new k column next h within inside front at_k cell at_column holds kind =
    let cut = h.left ∙ next_left line at count inside front in
    let field = at_front (fields_of line) i _ _ cut in
    let at_cell = cell_at (length ks) (fields_of line) i within ∙ field in
    let size = length-drop i (fields_of line) in
    let some : length (drop i (fields_of line)) ≡ suc (length (left_of line (at + (count + 1)))) =
    ap length cut in
    record {
      pushed = λ at_row. pushes.more at_row ks (cells_of (length ks) (fields_of line)) i old new k
          (take count (drop at line)) column next (h.pushed at_row) at_k at_cell
          (cell_complete at_row (i + 1) k (take count (drop at line)) cell) at_column holds kind;
      counted = omega (arith, size, some);
      left = behind_front (fields_of line) i _ _ cut;
    }

-- a field that is no cell
pub no_cell : (line : List ℕ) (ks : List Kind) (i at at_row : ℕ) (old new : List RawColumn)
    (k : Kind) → HasPushedTo line ks i at old new → i < length ks → at ≤ length line
    → slice_get ks i ≡ Some k
    → ((count : ℕ) → IsFront (drop at line) count → is_cell k (take count (drop at line)) ≡ false)
    → record_fault ks at_row (fields_of line) ≡ None → ⊥
no_cell line ks i at at_row old new k h within inside at_k bad none =
    let (count, front) = front_there (drop at line) in
    let cut = h.left ∙ next_left line at count inside front in
    let field = at_front (fields_of line) i _ _ cut in
    let at_cell = cell_at (length ks) (fields_of line) i within ∙ field in
    elim (cases_Bool (length (cells_of (length ks) (fields_of line)) == length ks)) [
      | inl same ↦
          let all = eqb-true _ _ same in
          go (take count (drop at line)) at_cell (bad count front) all
          (cell_fault at_row (i + 1) k (take count (drop at line))) refl
      | inr other ↦
          miscounted ks at_row (fields_of line)
          (λ same. true≢false (sym (eq-eqb _ _ same) ∙ other)) none
    ]
  where
    go : (cell : List ℕ) → slice_get (cells_of (length ks) (fields_of line)) i ≡ Some cell
        → is_cell k cell ≡ false → length (cells_of (length ks) (fields_of line)) ≡ length ks
        → (fault : Option ReadFault) → cell_fault at_row (i + 1) k cell ≡ fault → ⊥
    go cell at_cell bad all None e =
        true≢false (sym (cell_sound at_row (i + 1) k cell e) ∙ bad)
    go cell at_cell bad all (Some f) e =
        let found = right_count ks at_row (fields_of line) all
        ∙ pushes.faulty at_row ks (cells_of (length ks) (fields_of line)) i old new k cell f
        (h.pushed at_row) at_k at_cell e in
        let both : Some f ≡ None = sym found ∙ none in
        cc both

-- there is more than the columns and a bar
pub long_line : (line : List ℕ) (ks : List Kind) (i at at_row : ℕ) (old new : List RawColumn)
    → HasPushedTo line ks i at old new → i ≡ length ks → at < length line
    → record_fault ks at_row (fields_of line) ≡ None → ⊥
long_line line ks i at at_row old new h past inside =
    let (count, front) = front_there (drop at line) in
    let within : at ≤ length line = omega (arith, inside) in
    let here = next_left line at count within front in
    let cut = h.left ∙ here in
    let size = length-drop i (fields_of line) in
    let some : length (drop i (fields_of line)) ≡ suc (length (left_of line (at + (count + 1)))) =
    ap length cut in
    let many : length ks < length (fields_of line) = omega (arith, size, some, past) in
    miscounted ks at_row (fields_of line)
    (λ all. elim (cases_Bool (ends_in_bar (length ks) (fields_of line))) [
      | inl bar ↦
          let parts = and_parts (length (fields_of line) == length ks + 1)
          (is_empty_field (slice_get (fields_of line) (length ks))) bar in
          let one = eqb-true (length (fields_of line)) (length ks + 1) parts.0 in
          let field = at_front (fields_of line) i _ _ cut in
          last count front here (length (left_of line (at + (count + 1)))) refl
          (omega (arith, size, some, past, one))
          (rw (rw past at field) at parts.1)
      | inr plain ↦
          let same : length (fields_of line) ≡ length ks = rw plain at all in
          omega (arith, many, same)
    ])
  where
    nothing : (xs : List (List ℕ)) → length xs ≡ 0 → xs ≡ []
    nothing [] e = refl
    nothing (x ∷ xs) e = absurd (omega (arith, e))

    blank : (x : List ℕ) → is_empty_field (Some x) ≡ true → x ≡ []
    blank [] e = refl
    blank (b ∷ bs) e = absurd (true≢false (sym e))

    last : (count : ℕ) → IsFront (drop at line) count
        → left_of line at ≡ take count (drop at line) ∷ left_of line (at + (count + 1))
        → (n : ℕ) → length (left_of line (at + (count + 1))) ≡ n → n ≡ 0
        → is_empty_field (Some (take count (drop at line))) ≡ true → ⊥
    last count front here n size none empty =
        let rest = nothing (left_of line (at + (count + 1))) (size ∙ none) in
        let alone : left_of line at ≡ [] ∷ [] =
        here ∙ rw (rest, blank (take count (drop at line)) empty) refl in
        let text = empty_text (drop at line) (sym (left_within line at inside) ∙ alone) in
        let gone : length (drop at line) ≡ 0 = ap length text in
        omega (arith, inside, gone, length-drop at line)

-- as many fields as columns, or one more that is empty
whole_count : (width at : ℕ) (line : List ℕ) → width ≤ length (fields_of line)
    → drop width (fields_of line) ≡ left_of line at → length line ≤ at
    → length (cells_of width (fields_of line)) ≡ width
whole_count width at line counted left behind = elim (apart (length line) at behind) [
  | inl past ↦
      let none : drop width (fields_of line) ≡ [] = left ∙ none_left line at past in
      let zero_left : length (drop width (fields_of line)) ≡ 0 = ap length none in
      let all : length (fields_of line) ≡ width =
      omega (arith, zero_left, counted, length-drop width (fields_of line)) in
      elim (cases_Bool (ends_in_bar width (fields_of line))) [
        | inl bar ↦
            let parts = and_parts (length (fields_of line) == width + 1)
            (is_empty_field (slice_get (fields_of line) width)) bar in
            let more = eqb-true (length (fields_of line)) (width + 1) parts.0 in
            absurd (omega (arith, all, more))
        | inr plain ↦ rw plain all
      ]
  | inr same ↦
      let blank : drop width (fields_of line) ≡ [] ∷ [] = left ∙ end_left line at same in
      let one : length (drop width (fields_of line)) ≡ 1 = ap length blank in
      let size : length (fields_of line) ≡ width + 1 =
      omega (arith, one, counted, length-drop width (fields_of line)) in
      let field = at_front (fields_of line) width [] [] blank in
      let bar : ends_in_bar width (fields_of line) ≡ true =
      rw (eq-eqb (length (fields_of line)) (width + 1) size, field) refl in
      rw bar (length-take-le width (fields_of line) counted)
]
  where
    apart : (a b : ℕ) → a ≤ b → (a < b) ⊎ (a ≡ b)
    apart zero zero h = inr refl
    apart zero (suc b) h = inl (omega arith)
    apart (suc a) zero h = absurd (omega (arith, h))
    apart (suc a) (suc b) h =
        elim (apart a b (omega (arith, h)))
        [ inl less ↦ inl (omega (arith, less)) | inr same ↦ inr (omega (arith, same)) ]

-- the line is all read
pub whole : (line : List ℕ) (i at at_row : ℕ) (old new : List RawColumn)
    → HasPushedTo line (map raw_kind old) i at old new → i ≡ length old → length line ≤ at
    → AddsRecord at_row (fields_of line) old new
whole line i at at_row old new h past behind =
    let ks : List Kind = map raw_kind old in
    let width : length ks ≡ length old = length-map old raw_kind in
    let reached : i ≡ length ks = omega (arith, past, width) in
    let all = whole_count (length ks) at line (rw reached at h.counted) (rw reached at h.left)
    behind in
    let w = pushes.whole at_row ks (cells_of (length ks) (fields_of line)) i old new
    (h.pushed at_row) (omega (arith, reached)) all in
    record {
      no_fault = right_count ks at_row (fields_of line) all ∙ w.no_fault;
      columns = w.columns;
      width = w.width ∙ width;
      kinds = (h.pushed at_row).kinds;
    }
